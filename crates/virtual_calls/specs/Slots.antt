-- The table of slots.
use Rattle.std.specs.Prelude.{◌≡◌, ℕ, ◌+◌, List, [], ◌∷◌, map, Option, slice_get}
use Rattle.std.specs.List.{range_with_len}
use Rattle.std.specs.Option.{option_and_then}
use Rattle.il_base.specs.declared.ids.MethodId.{MethodId}
use Rattle.il_base.specs.declared.world_model.record.AsmRec.{AsmRec}
use Rattle.rules.specs.declared.link_rules.row_at.RowAt.{RowAt}
use Rattle.rules.specs.link_rules.Types.{at_row}
use Rattle.rules.specs.link_rules.Members.{methods_in}
use Rattle.rules.specs.type_rules.Slots.{method_home, slot_of}
use Rattle.rules.specs.type_rules.Dispatch.{slot_in_run}
use Rattle.virtual_calls.specs.declared.slots.Slots.{Slots}

-- the slots of the first methods of an assembly
abbrev pub slots_in : List AsmRec → ℕ → ℕ → List (Option RowAt)
slots_in recs a n = map (λ (k : ℕ). slot_of recs (at_row a k)) (range_with_len 0 n)

-- the slots of the methods of each of these assemblies, where the first of these has the number a
abbrev pub slots_from : List AsmRec → ℕ → List AsmRec → List (List (Option RowAt))
slots_from all a [] = []
slots_from all a (rec ∷ recs) = slots_in all a (methods_in rec) ∷ slots_from all (a + 1) recs

abbrev pub slot_in_rows : List (List (Option RowAt)) → RowAt → Option RowAt
slot_in_rows rows at = option_and_then (λ (slots : List (Option RowAt)). option_and_then (λ (slot : Option RowAt). slot) (slice_get slots at.row)) (slice_get rows at.asm)

abbrev pub slot_at : Slots → RowAt → Option RowAt
slot_at slots at = slot_in_rows slots.rows at

-- the slot of each method
abbrev pub AreSlots : List AsmRec → Slots → Type 0
AreSlots recs slots = (at : RowAt) → slot_at slots at ≡ slot_of recs at

-- `slot_in` of the type in a row
abbrev pub slot_in_at : List AsmRec → RowAt → RowAt → Option RowAt
slot_in_at recs slot at =
    option_and_then (λ (rec : AsmRec). option_and_then (slot_in_run recs slot at rec) (slice_get rec.type_def at.row)) (slice_get recs at.asm)

-- the slot of a method, by its id
abbrev pub slot_of_id : List AsmRec → MethodId → Option RowAt
slot_of_id recs m = option_and_then (slot_of recs) (method_home recs m)
