-- The new rows of kept items: the inputs in their order, and of each input the rows in their order. A set of kept items is
-- a test on items; rows are counted from 0 here, and tokens count them from 1.
use Rattle.std.specs.Prelude.{ℕ, suc, List, [], ◌∷◌, map, Option, position, Bool}
use Rattle.std.specs.List.{flat_map, filter, range_with_len}
use Rattle.il_base.specs.declared.ids.Item.{Item}
use Rattle.il_base.specs.declared.world_model.record.AsmRec.{AsmRec}
use Rattle.il_base.specs.world_model.Worlds.{types_in}
use Rattle.rules.specs.declared.link_rules.row_at.RowAt.{RowAt}
use Rattle.rules.specs.link_rules.Types.{at_row}
use Rattle.rules.specs.link_rules.Members.{methods_in, fields_in}
use Rattle.rules.specs.link_rules.Cycles.{same_row}
use Rattle.rules.specs.mark_rules.Places.{type_item, method_item, field_item, prop_item, event_item, impl_item, props_in, events_in, impls_in}

-- a test that says which items are kept
abbrev pub Kept : Type 0
Kept = Item → Bool

-- all assemblies but the core library, which is the last
abbrev pub inputs_from : ℕ → List AsmRec → List (ℕ × AsmRec)
inputs_from a [] = []
inputs_from a (rec ∷ []) = []
inputs_from a (rec ∷ next ∷ recs) = (a, rec) ∷ inputs_from (suc a) (next ∷ recs)

-- the inputs with their numbers
abbrev pub inputs : List AsmRec → List (ℕ × AsmRec)
inputs recs = inputs_from 0 recs

-- the rows of a kind of all inputs, in order
abbrev pub rows_of_kind : (AsmRec → ℕ) → List AsmRec → List RowAt
rows_of_kind count recs = flat_map (λ (x : ℕ × AsmRec). map (at_row x.0) (range_with_len 0 (count x.1))) (inputs recs)

abbrev pub kept_rows : (AsmRec → ℕ) → (RowAt → Item) → List AsmRec → Kept → List RowAt
kept_rows count item recs kept = filter (λ at. kept (item at)) (rows_of_kind count recs)

unfoldable pub kept_types : List AsmRec → Kept → List RowAt
kept_types recs kept = kept_rows types_in (type_item recs) recs kept

unfoldable pub kept_methods : List AsmRec → Kept → List RowAt
kept_methods recs kept = kept_rows methods_in (method_item recs) recs kept

unfoldable pub kept_fields : List AsmRec → Kept → List RowAt
kept_fields recs kept = kept_rows fields_in (field_item recs) recs kept

unfoldable pub kept_properties : List AsmRec → Kept → List RowAt
kept_properties recs kept = kept_rows props_in (prop_item recs) recs kept

unfoldable pub kept_events : List AsmRec → Kept → List RowAt
kept_events recs kept = kept_rows events_in (event_item recs) recs kept

unfoldable pub kept_impls : List AsmRec → Kept → List RowAt
kept_impls recs kept = kept_rows impls_in (impl_item recs) recs kept

-- the new row of a kept row: its place among the kept ones
abbrev pub new_row : List RowAt → RowAt → Option ℕ
new_row kept at = position (same_row at) kept
