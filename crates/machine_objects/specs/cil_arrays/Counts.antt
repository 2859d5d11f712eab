-- Lengths and indices as natural numbers.
use Rattle.std.specs.Prelude.{ℕ, nat_le, ℤ, pos, negsuc, List, ◌∷◌, replicate, Option, Some, None, Result, Ok, Err, slice_get}
use Rattle.std.specs.Option.{option_map, option_and_then}
use Rattle.il_base.specs.declared.world_model.expr.TypeExpr.{TypeExpr}
use Rattle.il_base.specs.declared.cil_values.value.Value.{Value}
use Rattle.il_base.specs.declared.cil_values.value.Value.TheVariants as value
use Rattle.il_base.specs.declared.cil_values.object.Obj.TheVariants as object
use Rattle.il_base.specs.declared.cil_values.resolved.Instruction.{Instruction}
use Rattle.il_base.specs.declared.cil_values.state.State.{State}
use Rattle.rules.specs.step_rules.Next.{Next}
use Rattle.rules.specs.step_rules.Queries.{Queries}
use Rattle.rules.specs.step_rules.Words.{Here, given, within, popped, goes, made}
use Rattle.rules.specs.step_rules.Arrays.{array_limit, count_of, new_array}
use Rattle.il_base.specs.declared.core_table.names.CoreName.TheVariants.{OverflowException}
use Rattle.machine_numbers.specs.declared.cil_operands.refusal.Refusal.{Refusal}
use Rattle.machine_numbers.specs.declared.cil_operands.refusal.Refusal.TheVariants.{Raises}
use Rattle.machine_numbers.specs.cil_operands.Outcomes.{refused}
use Rattle.machine_objects.specs.cil_arrays.Elements.{or_stuck, and_next}

-- None for a negative number
abbrev pub natural : ℤ → Option ℕ
natural (pos n) = Some n
natural (negsuc n) = None

abbrev pub place_by : List Value → Option ℕ → Option ℕ
place_by cells n = option_and_then (λ k. option_map (λ v. k) (slice_get cells k)) n

-- `newarr` with this length
abbrev pub new_array_by : Here → Instruction → State → TypeExpr → Value → List Value → ℕ → Next
new_array_by here i s e zero stack n =
    within (nat_le n array_limit) s (made (object.Array e (replicate n zero)) s (λ a t. goes here i (value.Object a ∷ stack) t))

abbrev pub not_negative : Option ℕ → Result ℕ Refusal
not_negative (Some n) = Ok n
not_negative None = Err (Raises OverflowException)

-- the length that a value asks for
abbrev pub length_found : Value → Result ℕ Refusal
length_found v = and_next (λ n. not_negative (natural n)) (or_stuck (count_of v))

abbrev pub made_by : Queries → Here → Instruction → State → TypeExpr → Value → List Value → Result ℕ Refusal → Next
made_by q here i s e zero stack (Ok n) = new_array_by here i s e zero stack n
made_by q here i s e zero stack (Err why) = refused q s why

-- `newarr` of a type with this zero value
abbrev pub new_with : Queries → Here → Instruction → State → TypeExpr → Value → Next
new_with q here i s e zero = popped s.top.stack s (λ v stack. given (count_of v) s (new_array q here i s e zero stack))
