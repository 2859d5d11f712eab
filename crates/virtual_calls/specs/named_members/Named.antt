-- The members of a kind that a search wants, type by type.
use Rattle.std.specs.Prelude.{ℕ, ◌+◌, List, [], ◌∷◌, ◌++◌, map, ◌&&◌, Bool, true, not, Option}
use Rattle.std.specs.List.{list_any, filter}
use Rattle.il_base.specs.declared.ids.Item.{Item}
use Rattle.il_base.specs.declared.ids.Item.TheVariants as item
use Rattle.il_base.specs.declared.world_model.expr.TypeExpr.{TypeExpr}
use Rattle.il_base.specs.declared.world_model.record.AsmRec.{AsmRec}
use Rattle.il_base.specs.world_model.Worlds.{rows_before}
use Rattle.rules.specs.declared.link_rules.row_at.RowAt.{RowAt}
use Rattle.rules.specs.declared.type_rules.found_member.FoundMember.{FoundMember}
use Rattle.type_tables.specs.declared.member_search.counted.Counted.{Counted}
use Rattle.type_tables.specs.declared.member_search.counted.Counted.TheVariants.{Fields, Methods, Properties, Events}
use Rattle.type_tables.specs.member_search.Counted.{count_in}
use Rattle.rules.specs.type_rules.Searches.{fields_found, methods_found, properties_found, events_found}
use Rattle.virtual_calls.specs.declared.named_members.kinds.Kind.{Kind}
use Rattle.virtual_calls.specs.declared.named_members.kinds.Kind.TheVariants.{Field, Method, Property, Event}
use Rattle.virtual_calls.specs.named_members.Kinds.{named_rows}
use Rattle.virtual_calls.specs.named_members.Counts.{counts}
use Rattle.virtual_calls.specs.named_members.Hiding.{hides}

-- those of some rows of a type that count and that none found before hides
abbrev pub kept : List AsmRec → List TypeExpr → Kind → Bool → List RowAt → List RowAt → List RowAt
kept recs es kind inherited found rows = filter (λ x. counts recs kind inherited x && not (list_any (λ y. hides recs es kind y x) found)) rows

-- ---- as members

abbrev pub counted : Kind → Counted
counted Field = Fields
counted Method = Methods
counted Property = Properties
counted Event = Events

abbrev pub item_of : Kind → ℕ → Item
item_of Field n = item.Field (record { 0 = n })
item_of Method n = item.Method (record { 0 = n })
item_of Property n = item.Prop (record { 0 = n })
item_of Event n = item.Event (record { 0 = n })

abbrev pub id_of : List AsmRec → Kind → RowAt → Item
id_of recs kind at = item_of kind (rows_before (count_in (counted kind)) recs at.asm + at.row)

abbrev pub member_of : List AsmRec → Kind → TypeExpr → RowAt → FoundMember
member_of recs kind e at = record { item = id_of recs kind at; owner = e }

-- those of a type and its bases
abbrev pub gather : List AsmRec → Option (List ℕ) → List TypeExpr → Kind → Bool → List RowAt → List TypeExpr → List FoundMember
gather recs wanted es kind inherited before [] = []
gather recs wanted es kind inherited before (t ∷ ts) =
    map (member_of recs kind t) (kept recs es kind inherited before (named_rows recs wanted kind t))
    ++ gather recs wanted es kind true (before ++ kept recs es kind inherited before (named_rows recs wanted kind t)) ts

abbrev pub found : List AsmRec → Option (List ℕ) → List TypeExpr → Kind → List FoundMember
found recs wanted es Field = fields_found recs wanted es
found recs wanted es Method = methods_found recs wanted es
found recs wanted es Property = properties_found recs wanted es
found recs wanted es Event = events_found recs wanted es
