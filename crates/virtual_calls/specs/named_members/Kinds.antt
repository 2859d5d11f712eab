-- Members that a search wants, of any name or of one, all kinds alike.
use Rattle.std.specs.Prelude.{ℕ, List, map, Option, slice_get, Bool}
use Rattle.std.specs.List.{list_any, flat_map, filter, range_with_len}
use Rattle.il_base.specs.declared.world_model.expr.TypeExpr.{TypeExpr}
use Rattle.il_base.specs.declared.world_model.types.TypeDefRow.{TypeDefRow}
use Rattle.il_base.specs.declared.world_model.members.FieldRow.{FieldRow}
use Rattle.il_base.specs.declared.world_model.members.MethodDefRow.{MethodDefRow}
use Rattle.il_base.specs.declared.world_model.record.AsmRec.{AsmRec}
use Rattle.rules.specs.declared.link_rules.row_at.RowAt.{RowAt}
use Rattle.rules.specs.link_rules.Types.{at_row}
use Rattle.rules.specs.link_rules.Cycles.{listed}
use Rattle.rules.specs.type_rules.Searches.{rows_of, field_places, method_places, property_places, event_places, is_wanted, field_test, method_test, is_property_wanted, is_event_wanted}
use Rattle.virtual_calls.specs.declared.named_members.kinds.Kind.{Kind}
use Rattle.virtual_calls.specs.declared.named_members.kinds.Kind.TheVariants.{Field, Method, Property, Event}
use Rattle.virtual_calls.specs.declared.named_members.kinds.Mapped.TheVariants as mapped
use Rattle.virtual_calls.specs.named_members.Mapped as maps

-- ---- the rows of a type that have a wanted name

abbrev pub members_of : Kind → AsmRec → TypeDefRow → ℕ → List ℕ
members_of Field rec t k = field_places rec t k
members_of Method rec t k = method_places rec t k
members_of Property rec t k = property_places rec t k
members_of Event rec t k = event_places rec t k

abbrev pub is_named : List AsmRec → Option (List ℕ) → Kind → RowAt → Bool
is_named recs wanted Field at = field_test recs (λ (f : FieldRow). is_wanted wanted f.name) at
is_named recs wanted Method at = method_test recs (λ (m : MethodDefRow). is_wanted wanted m.name) at
is_named recs wanted Property at = is_property_wanted recs wanted at
is_named recs wanted Event at = is_event_wanted recs wanted at

abbrev pub named_rows : List AsmRec → Option (List ℕ) → Kind → TypeExpr → List RowAt
named_rows recs wanted kind e = filter (is_named recs wanted kind) (rows_of recs (members_of kind) e)

abbrev pub rows_at : List AsmRec → Kind → RowAt → List RowAt
rows_at recs kind at =
    flat_map (λ (rec : AsmRec). flat_map (λ (t : TypeDefRow). map (at_row at.asm) (members_of kind rec t at.row)) (listed (slice_get rec.type_def at.row))) (listed (slice_get recs at.asm))

abbrev pub named_at : List AsmRec → Option (List ℕ) → Kind → RowAt → List RowAt
named_at recs wanted kind at = filter (is_named recs wanted kind) (rows_at recs kind at)

-- of an assembly
abbrev pub has_name : Kind → AsmRec → Option (List ℕ) → ℕ → Bool
has_name Field rec wanted k = list_any (λ (f : FieldRow). is_wanted wanted f.name) (listed (slice_get rec.field k))
has_name Method rec wanted k = list_any (λ (m : MethodDefRow). is_wanted wanted m.name) (listed (slice_get rec.method_def k))
has_name Property rec wanted k = maps.has_name mapped.Property rec wanted k
has_name Event rec wanted k = maps.has_name mapped.Event rec wanted k

abbrev pub named_in : Kind → AsmRec → Option (List ℕ) → RowAt → TypeDefRow → List RowAt
named_in kind rec wanted at t = map (at_row at.asm) (filter (has_name kind rec wanted) (members_of kind rec t at.row))

-- those of some numbers from a start on
abbrev pub named_from : Kind → AsmRec → ℕ → Option (List ℕ) → ℕ → ℕ → List RowAt
named_from kind rec asm wanted start n = map (at_row asm) (filter (has_name kind rec wanted) (range_with_len start n))
