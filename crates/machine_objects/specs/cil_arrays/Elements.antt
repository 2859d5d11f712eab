-- What an element instruction gives once its array is found, and how it refuses.
use Rattle.std.specs.Prelude.{ℕ, List, slice_get, Bool, true, false, ◌||◌, Option, Some, None, Result, Ok, Err, if◌then◌else◌}
use Rattle.std.specs.Option.{option_and_then}
use Rattle.il_base.specs.declared.world_model.expr.TypeExpr.{TypeExpr}
use Rattle.il_base.specs.world_model.Exprs.{same_expr}
use Rattle.il_base.specs.declared.core_table.names.CoreName.TheVariants.{ArrayTypeMismatchException, IndexOutOfRangeException}
use Rattle.il_base.specs.declared.cil_values.value.Value.{Value}
use Rattle.il_base.specs.declared.cil_values.value.Value.TheVariants as value
use Rattle.il_base.specs.declared.cil_values.resolved.Instruction.{Instruction}
use Rattle.il_base.specs.declared.cil_values.state.State.{State}
use Rattle.rules.specs.step_rules.Queries.{Queries}
use Rattle.rules.specs.step_rules.Next.{Next}
use Rattle.rules.specs.step_rules.Words.{Here, given, object_at}
use Rattle.rules.specs.step_rules.Stores.{Access, allows, loaded, stored}
use Rattle.rules.specs.step_rules.Arrays.{Vector, vector_in, element_type, count_of, place_in, mismatches, put_element, element_path, is_readonly}
use Rattle.machine_numbers.specs.declared.cil_operands.refusal.Refusal.{Refusal}
use Rattle.machine_numbers.specs.declared.cil_operands.refusal.Refusal.TheVariants.{Raises, Stuck}
use Rattle.machine_numbers.specs.cil_operands.Outcomes.{refused}
use Rattle.machine_objects.specs.declared.cil_arrays.stores.Stored.{Stored}

abbrev pub or_stuck : {A : Type 0} → Option A → Result A Refusal
or_stuck None = Err Stuck
or_stuck (Some x) = Ok x

abbrev pub and_next : {A B : Type 0} → (A → Result B Refusal) → Result A Refusal → Result B Refusal
and_next f (Ok x) = f x
and_next f (Err why) = Err why

abbrev pub if_allowed : {A : Type 0} → Bool → Result A Refusal → Result A Refusal
if_allowed true r = r
if_allowed false r = Err Stuck

abbrev pub in_bounds : Option ℕ → Result ℕ Refusal
in_bounds None = Err (Raises IndexOutOfRangeException)
in_bounds (Some n) = Ok n

-- an index within an array
unfoldable pub index_found : Vector → Value → Result ℕ Refusal
index_found v index = and_next (λ n. in_bounds (place_in v.cells n)) (or_stuck (count_of index))

abbrev pub loaded_at : Access → Vector → ℕ → Result Value Refusal
loaded_at a v n = or_stuck (option_and_then (loaded a) (slice_get v.cells n))

unfoldable pub load_found : Queries → Access → Value → Vector → Result Value Refusal
load_found q a index v = if_allowed (allows q a (element_type v)) (and_next (loaded_at a v) (index_found v index))

abbrev pub address_at : State → TypeExpr → Vector → ℕ → Result Value Refusal
address_at s e v n =
    if same_expr (element_type v) e || is_readonly s.top.prefix then Ok (value.Pointer (element_path v n)) else Err (Raises ArrayTypeMismatchException)

unfoldable pub address_found : State → TypeExpr → Value → Vector → Result Value Refusal
address_found s e index v = and_next (address_at s e v) (index_found v index)

abbrev pub checked_at : Queries → State → Vector → ℕ → Value → Result Stored Refusal
checked_at q s v n w = if mismatches q s v w then Err (Raises ArrayTypeMismatchException) else Ok (record { array = v.place; at = n; value = w })

abbrev pub stored_at : Queries → State → Access → Value → Vector → ℕ → Result Stored Refusal
stored_at q s a x v n = and_next (checked_at q s v n) (or_stuck (stored q a (element_type v) x))

unfoldable pub store_found : Queries → State → Access → Value → Value → Vector → Result Stored Refusal
store_found q s a index x v = if_allowed (allows q a (element_type v)) (and_next (stored_at q s a x v) (index_found v index))

-- a value that is put into an element of the array with a number, or none
abbrev pub put_at : Here → Instruction → State → List Value → ℕ → ℕ → Value → Next
put_at here i s stack a n w = given (option_and_then (vector_in a) (object_at s a)) s (λ v. put_element here i s stack v n w)

unfoldable pub stored_by : Queries → Here → Instruction → State → List Value → Result Stored Refusal → Next
stored_by q here i s stack (Ok p) = put_at here i s stack p.array p.at p.value
stored_by q here i s stack (Err why) = refused q s why
