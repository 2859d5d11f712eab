-- Lengths and indices as natural numbers.
use Rattle.std.proofs.Common.{◌≡◌, ◌∙◌, refl, sym, ap, ℕ, ℤ, pos, negsuc, List, ◌∷◌, drop, Option, Some, None}
use Rattle.std.specs.Prelude.{Result, slice_get}
use Rattle.std.specs.Option.{option_map}
use Rattle.il_base.specs.declared.world_model.expr.TypeExpr.{TypeExpr}
use Rattle.il_base.specs.declared.cil_values.value.Value.{Value}
use Rattle.il_base.specs.declared.cil_values.resolved.Instruction.{Instruction}
use Rattle.il_base.specs.declared.cil_values.state.State.{State}
use Rattle.rules.specs.step_rules.Queries.{Queries}
use Rattle.rules.specs.step_rules.Words.{Here, given, popped}
use Rattle.rules.specs.step_rules.Arrays.{count_of, place_in, new_array}
use Rattle.machine_objects.specs.cil_arrays.Counts.{natural, place_by, not_negative, length_found, made_by, new_with}
use Rattle.machine_objects.specs.cil_arrays.Elements.{or_stuck, and_next}
use Rattle.machine_numbers.specs.declared.cil_operands.refusal.Refusal.{Refusal}
use Rattle.machine_numbers.specs.cil_operands.Outcomes.{refused}

pub placed_by : (cells : List Value) (n : ℤ) → place_in cells n ≡ place_by cells (natural n)
placed_by cells (pos n) = by_case (slice_get cells n)
  where
    by_case : (v : Option Value) → (elim v [ None ↦ None | Some w ↦ Some n ]) ≡ option_map (λ w. n) v
    by_case None = refl
    by_case (Some w) = refl
placed_by cells (negsuc n) = refl

by_length : (q : Queries) (here : Here) (i : Instruction) (s : State) (e : TypeExpr) (zero : Value) (stack : List Value) (n : ℤ)
    → made_by q here i s e zero stack (not_negative (natural n)) ≡ new_array q here i s e zero stack n
unfolding refused
by_length q here i s e zero stack (pos n) = refl
by_length q here i s e zero stack (negsuc n) = refl

by_count : (q : Queries) (here : Here) (i : Instruction) (s : State) (e : TypeExpr) (zero : Value) (stack : List Value) (n : Option ℤ)
    → made_by q here i s e zero stack (and_next (λ n. not_negative (natural n)) (or_stuck n)) ≡ given n s (new_array q here i s e zero stack)
unfolding refused
by_count q here i s e zero stack None = refl
by_count q here i s e zero stack (Some n) = by_length q here i s e zero stack n

pub new_tells : (q : Queries) (here : Here) (i : Instruction) (s : State) (e : TypeExpr) (zero v : Value) (stack : List Value) (n : Result ℕ Refusal)
    → s.top.stack ≡ v ∷ stack → n ≡ length_found v → made_by q here i s e zero (drop 1 s.top.stack) n ≡ new_with q here i s e zero
new_tells q here i s e zero v stack n top is =
    ap (λ (l : List Value). made_by q here i s e zero (drop 1 l) n) top ∙ ap (λ (m : Result ℕ Refusal). made_by q here i s e zero stack m) is
    ∙ by_count q here i s e zero stack (count_of v)
    ∙ sym (ap (λ (l : List Value). popped l s (λ v stack. given (count_of v) s (new_array q here i s e zero stack))) top)
