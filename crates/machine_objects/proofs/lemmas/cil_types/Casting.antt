-- Casts of the operand on top of the stack.
use Rattle.std.proofs.Common.{◌≡◌, ◌∙◌, sym, ap, List, ◌∷◌, drop, Bool, true, false}
use Rattle.std.specs.Prelude.{◌==◌, if◌then◌else◌}
use Rattle.il_base.specs.declared.opcode.TheConstants.{CASTCLASS}
use Rattle.il_base.specs.declared.world_model.expr.TypeExpr.{TypeExpr}
use Rattle.il_base.specs.declared.core_table.names.CoreName.TheVariants.{InvalidCastException}
use Rattle.il_base.specs.declared.cil_values.value.Value.{Value}
use Rattle.il_base.specs.declared.cil_values.value.Value.TheVariants as value
use Rattle.il_base.specs.declared.cil_values.resolved.Instruction.{Instruction}
use Rattle.il_base.specs.declared.cil_values.state.State.{State}
use Rattle.rules.specs.step_rules.Queries.{Queries}
use Rattle.rules.specs.step_rules.Next.{Next}
use Rattle.rules.specs.step_rules.Words.{Here, popped, stuck, goes}
use Rattle.rules.specs.step_rules.Raising.{raise}
use Rattle.rules.specs.step_rules.Types.{cast_with, cast_class, is_instance, casts}
use Rattle.machine_objects.specs.declared.cil_types.casts.CastOutcome.{CastOutcome}
use Rattle.machine_objects.specs.declared.cil_types.casts.CastOutcome.TheVariants as outcome
use Rattle.machine_objects.specs.cil_types.Casts.{cast_by, refusal_by}

module _ (q : Queries) (here : Here) (i : Instruction) (s : State) (e : TypeExpr) (v : Value) (stack : List Value) (k : CastOutcome)
    (top : s.top.stack ≡ v ∷ stack)
    (casted : (here : Here) (i : Instruction) (stack : List Value) (other : Next) → cast_with q here i s e v stack other ≡ cast_by k here i s v stack other) where
  class_is : popped s.top.stack s (cast_class q here i s e) ≡ cast_by k here i s v stack (raise q InvalidCastException s)
  class_is = ap (λ (l : List Value). popped l s (cast_class q here i s e)) top ∙ casted here i stack (raise q InvalidCastException s)

  by_opcode : (b : Bool) → (if b then cast_class q here i s e v stack else is_instance q here i s e v stack)
      ≡ cast_by k here i s v stack (if b then raise q InvalidCastException s else goes here i (value.Null ∷ stack) s)
  by_opcode true = casted here i stack (raise q InvalidCastException s)
  by_opcode false = casted here i stack (goes here i (value.Null ∷ stack) s)

  casts_is : casts q here i s e ≡ cast_by k here i s v stack (refusal_by q here i s stack)
  casts_is = ap (λ (l : List Value). popped l s (λ v stack. if i.opcode == CASTCLASS then cast_class q here i s e v stack else is_instance q here i s e v stack)) top
      ∙ by_opcode (i.opcode == CASTCLASS)

  keeps : (form other next : Next) → form ≡ cast_by k here i s v stack other → k ≡ outcome.Keeps → next ≡ goes here i s.top.stack s → next ≡ form
  unfolding cast_by
  keeps form other next is kept n =
      n ∙ ap (λ (l : List Value). goes here i l s) top ∙ sym (is ∙ ap (λ (x : CastOutcome). cast_by x here i s v stack other) kept)

  is_stuck : (form other next : Next) → form ≡ cast_by k here i s v stack other → k ≡ outcome.Stuck → next ≡ stuck s → next ≡ form
  unfolding cast_by
  is_stuck form other next is stucks n = n ∙ sym (is ∙ ap (λ (x : CastOutcome). cast_by x here i s v stack other) stucks)

  refuses : (form other : Next) → form ≡ cast_by k here i s v stack other → k ≡ outcome.Refuses → other ≡ form
  unfolding cast_by
  refuses form other is refused = sym (is ∙ ap (λ (x : CastOutcome). cast_by x here i s v stack other) refused)

  pub class_keeps : (next : Next) → k ≡ outcome.Keeps → next ≡ goes here i s.top.stack s → next ≡ popped s.top.stack s (cast_class q here i s e)
  class_keeps next kept n = keeps (popped s.top.stack s (cast_class q here i s e)) (raise q InvalidCastException s) next class_is kept n

  pub class_stuck : (next : Next) → k ≡ outcome.Stuck → next ≡ stuck s → next ≡ popped s.top.stack s (cast_class q here i s e)
  class_stuck next stucks n = is_stuck (popped s.top.stack s (cast_class q here i s e)) (raise q InvalidCastException s) next class_is stucks n

  pub class_refuses : k ≡ outcome.Refuses → raise q InvalidCastException s ≡ popped s.top.stack s (cast_class q here i s e)
  class_refuses refused = refuses (popped s.top.stack s (cast_class q here i s e)) (raise q InvalidCastException s) class_is refused

  pub casts_keeps : (next : Next) → k ≡ outcome.Keeps → next ≡ goes here i s.top.stack s → next ≡ casts q here i s e
  casts_keeps next kept n = keeps (casts q here i s e) (refusal_by q here i s stack) next casts_is kept n

  pub casts_stuck : (next : Next) → k ≡ outcome.Stuck → next ≡ stuck s → next ≡ casts q here i s e
  casts_stuck next stucks n = is_stuck (casts q here i s e) (refusal_by q here i s stack) next casts_is stucks n

  pub casts_refuses : k ≡ outcome.Refuses → refusal_by q here i s (drop 1 s.top.stack) ≡ casts q here i s e
  casts_refuses refused =
      ap (λ (l : List Value). refusal_by q here i s (drop 1 l)) top ∙ refuses (casts q here i s e) (refusal_by q here i s stack) casts_is refused
