-- The operand on top of the stack, as a box.
use Rattle.std.proofs.Common.{◌≡◌, ◌∙◌, refl, sym, ap, ℕ, List, [], ◌∷◌, drop}
use Rattle.std.specs.Prelude.{Result, Ok, Err, IfOk}
use Rattle.il_base.specs.declared.memory.NoMemory.{NoMemory}
use Rattle.il_base.specs.declared.world_model.expr.TypeExpr.{TypeExpr}
use Rattle.il_base.specs.declared.cil_values.value.Value.{Value}
use Rattle.il_base.specs.declared.cil_values.value.Value.TheVariants as value
use Rattle.il_base.specs.declared.cil_values.resolved.Instruction.{Instruction}
use Rattle.il_base.specs.declared.cil_values.state.State.{State}
use Rattle.rules.specs.step_rules.Queries.{Queries}
use Rattle.rules.specs.step_rules.Next.{Next}
use Rattle.rules.specs.step_rules.Words.{Here, popped, goes}
use Rattle.rules.specs.step_rules.Dispatch.{path_into_box}
use Rattle.rules.specs.step_rules.Types.{unboxes}
use Rattle.machine_numbers.specs.declared.cil_operands.refusal.Refusal.{Refusal}
use Rattle.machine_numbers.specs.declared.cil_operands.refusal.Refusal.TheVariants as refusal
use Rattle.machine_numbers.specs.cil_operands.Outcomes.{outcome_of, refused}
use Rattle.machine_objects.specs.cil_types.Boxing.{pointer_by, value_by}

module _ (s : State) (e : TypeExpr) (r : Value) (stack : List Value) (top : s.top.stack ≡ r ∷ stack) where
  given_by : (q : Queries) (here : Here) (i : Instruction) (f : List Value → ℕ → Value → Next) (a : ℕ) (w v : Value)
      → ((q : Queries) (f : ℕ → Value → Next) → unboxes q s e r f ≡ f a w) → f stack a w ≡ goes here i (v ∷ stack) s
      → outcome_of q here i s (drop 1 s.top.stack) (Ok v) ≡ popped s.top.stack s (λ v stack. unboxes q s e v (f stack))
  unfolding outcome_of
  given_by q here i f a w v found is =
      ap (λ (l : List Value). goes here i (v ∷ drop 1 l) s) top
      ∙ sym (ap (λ (l : List Value). popped l s (λ v stack. unboxes q s e v (f stack))) top ∙ found q (f stack) ∙ is)

  pub refused_by : (q : Queries) (here : Here) (i : Instruction) (f : List Value → ℕ → Value → Next) (why : Refusal)
      → ((q : Queries) (f : ℕ → Value → Next) → unboxes q s e r f ≡ refused q s why)
      → outcome_of q here i s (drop 1 s.top.stack) (Err why) ≡ popped s.top.stack s (λ v stack. unboxes q s e v (f stack))
  unfolding outcome_of
  refused_by q here i f why found = sym (ap (λ (l : List Value). popped l s (λ v stack. unboxes q s e v (f stack))) top ∙ found q (f stack))

  pub pointer_is : (a : ℕ) (w : Value) (out : Result (Result Value Refusal) NoMemory) → ((q : Queries) (f : ℕ → Value → Next) → unboxes q s e r f ≡ f a w)
      → IfOk out (λ out. out ≡ Ok (value.Pointer (path_into_box a e)))
      → IfOk out (λ out. (q : Queries) (here : Here) (i : Instruction) → outcome_of q here i s (drop 1 s.top.stack) out ≡ pointer_by q here i s e)
  pointer_is a w (Err x) found is = is
  pointer_is a w (Ok out) found is = λ q here i.
      ap (λ (o : Result Value Refusal). outcome_of q here i s (drop 1 s.top.stack) o) is
      ∙ given_by q here i (λ stack a w. goes here i (value.Pointer (path_into_box a e) ∷ stack) s) a w (value.Pointer (path_into_box a e)) found refl

  pub value_is : (a : ℕ) (w : Value) (out : Result (Result Value Refusal) NoMemory) → ((q : Queries) (f : ℕ → Value → Next) → unboxes q s e r f ≡ f a w)
      → IfOk out (λ out. out ≡ Ok w)
      → IfOk out (λ out. (q : Queries) (here : Here) (i : Instruction) → outcome_of q here i s (drop 1 s.top.stack) out ≡ value_by q here i s e)
  value_is a w (Err x) found is = is
  value_is a w (Ok out) found is = λ q here i.
      ap (λ (o : Result Value Refusal). outcome_of q here i s (drop 1 s.top.stack) o) is
      ∙ given_by q here i (λ stack a w. goes here i (w ∷ stack) s) a w w found refl

pub no_operand : (q : Queries) (here : Here) (i : Instruction) (s : State) (rest : List Value) (f : Value → List Value → Next) → s.top.stack ≡ []
    → outcome_of q here i s rest (Err refusal.Stuck) ≡ popped s.top.stack s f
unfolding outcome_of refused
no_operand q here i s rest f none = sym (ap (λ (l : List Value). popped l s f) none)
