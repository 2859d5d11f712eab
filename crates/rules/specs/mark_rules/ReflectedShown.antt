-- Types that a running program can see because reflection may reach a member: the one that has the member, and those in its signature.
use Rattle.std.specs.Prelude.{List, [], ◌++◌, map, Option, None}
use Rattle.std.specs.List.{flat_map}
use Rattle.std.specs.Option.{option_map}
use Rattle.il_base.specs.declared.ids.TypeId.{TypeId}
use Rattle.il_base.specs.declared.ids.Item.{Item}
use Rattle.il_base.specs.declared.ids.Item.TheVariants as item
use Rattle.il_base.specs.declared.world_model.known.Known.{Known}
use Rattle.il_base.specs.declared.world_model.known.Known.TheVariants.{Good, Bad}
use Rattle.il_base.specs.declared.world_model.record.AsmRec.{AsmRec}
use Rattle.il_base.specs.world_model.Worlds.{type_id}
use Rattle.rules.specs.declared.link_rules.row_at.RowAt.{RowAt}
use Rattle.rules.specs.link_rules.Types.{encloser}
use Rattle.rules.specs.link_rules.Cycles.{listed}
use Rattle.rules.specs.type_rules.Slots.{type_of_method}
use Rattle.rules.specs.type_rules.Rows.{owner_of_field}
use Rattle.rules.specs.mark_rules.Facts.{Fact}
use Rattle.rules.specs.mark_rules.Facts.Fact.{shown}
use Rattle.rules.specs.mark_rules.Places.{row_of}
use Rattle.rules.specs.mark_rules.Naming.{Named, Part, types_in}
use Rattle.rules.specs.mark_rules.Naming.Named.{type, method, field}
use Rattle.rules.specs.mark_rules.Types.{parts_of_field}
use Rattle.rules.specs.mark_rules.Properties.{property_owner, event_owner, parts_of_property}
use Rattle.rules.specs.site_rules.Items.{signature_parts, owning, class_of_impl}

-- ---- the type that has a member

abbrev pub id_of : List AsmRec → Option RowAt → Option TypeId
id_of recs at = option_map (λ (t : RowAt). type_id recs t.asm t.row) at

abbrev pub owner_of : List AsmRec → Item → RowAt → Option TypeId
owner_of recs (item.Asm a) at = None
owner_of recs (item.Typ t) at = owning recs at encloser
owner_of recs (item.Method m) at = id_of recs (type_of_method recs at)
owner_of recs (item.Field f) at = owning recs at owner_of_field
owner_of recs (item.Prop p) at = owning recs at property_owner
owner_of recs (item.Event e) at = owning recs at event_owner
owner_of recs (item.Impl r) at = class_of_impl recs at

-- ---- the types in its signature, with their arguments, elements and modifiers

abbrev pub types_of_named : Named → List TypeId
types_of_named (type e) = types_in e
types_of_named (method u) = []
types_of_named (field u) = []

abbrev pub types_of_known : Known Named → List TypeId
types_of_known (Good n) = types_of_named n
types_of_known (Bad why) = []

abbrev pub types_of_parts : List Part → List TypeId
types_of_parts parts = flat_map (λ (p : Part). types_of_known p.named) parts

-- a type, an event and an interface row have none
abbrev pub types_of_signature : List AsmRec → Item → RowAt → List TypeId
types_of_signature recs (item.Method m) at = types_of_parts (signature_parts recs at)
types_of_signature recs (item.Field f) at = types_of_parts (parts_of_field recs at)
types_of_signature recs (item.Prop p) at = types_of_parts (parts_of_property recs at)
types_of_signature recs _ at = []

-- ---- the rule

abbrev pub shown_with : List AsmRec → Item → RowAt → List Fact
shown_with recs i at = map shown (listed (owner_of recs i at) ++ types_of_signature recs i at)

-- what an item shows that reflection may reach
unfoldable pub reflected_shows : List AsmRec → Item → List Fact
reflected_shows recs i = flat_map (shown_with recs i) (listed (row_of recs i))
