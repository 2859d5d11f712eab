-- What the attributes of an item in a row mark.
use Rattle.std.specs.Prelude.{List}
use Rattle.std.specs.List.{flat_map, filter}
use Rattle.il_base.specs.declared.ids.Item.{Item}
use Rattle.il_base.specs.declared.world_model.record.AsmRec.{AsmRec}
use Rattle.rules.specs.declared.link_rules.row_at.RowAt.{RowAt}
use Rattle.rules.specs.link_rules.Cycles.{listed}
use Rattle.rules.specs.type_rules.Rows.{rec_at}
use Rattle.rules.specs.mark_rules.Facts.{Fact}
use Rattle.rules.specs.mark_rules.Attributes.{has_parent, tokens_in, attribute_facts}

abbrev pub facts_in : List AsmRec → Item → RowAt → AsmRec → List Fact
facts_in recs i at rec = flat_map (attribute_facts recs at.asm rec) (filter (has_parent (tokens_in i at.row rec)) rec.custom_attribute)

abbrev pub item_facts : List AsmRec → Item → RowAt → List Fact
item_facts recs i at = flat_map (facts_in recs i at) (listed (rec_at recs at))
