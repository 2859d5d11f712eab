-- With the kept rows and the tokens of an output, attributes are those of the record that a merge leaves.
use Rattle.std.specs.Prelude.{◌≡◌, List, map}
use Rattle.il_base.specs.declared.world_model.record.AsmRec.{AsmRec}
use Rattle.rules.specs.merge_rules.Numbers.{Kept}
use Rattle.rules.specs.merge_rules.Attributes as rules
use Rattle.rules.specs.merge_rules.Attributes.{kept_attributes, met_by_attributes}
use Rattle.rules.specs.merge_rules.Refs.{Output}
use Rattle.rules.specs.merge_rules.Restricted.{attribute_row}
use Rattle.merge_plan.specs.declared.kept_tables.tables.KeptTables.{KeptTables}
use Rattle.merge_plan.specs.kept_tables.Kept.{AreKept}
use Rattle.reference_rows.specs.declared.key_tokens.tokens.KeyTokens.{KeyTokens}
use Rattle.reference_rows.specs.key_tokens.Laws.{AreKeysOf}
use Rattle.restrict.specs.merged_attributes.Attributes.{attributes_by, met_by, row_by}

pub record AreAttributes (recs : List AsmRec) (kept : Kept) (k : KeptTables) : Type 0 where
  pub attributes : attributes_by k recs ≡ kept_attributes recs kept
  pub mets : map met_by (attributes_by k recs) ≡ met_by_attributes recs kept

abbrev pub AttributesTell : Type 0
AttributesTell = (recs : List AsmRec) (kept : Kept) (k : KeptTables) → AreKept recs kept k → AreAttributes recs kept k

abbrev pub RowsTell : Type 0
RowsTell = (o : Output) (k : KeyTokens) → AreKeysOf o k → (xs : List rules.Attribute) → map (row_by k) xs ≡ map (attribute_row o) xs
