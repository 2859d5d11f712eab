-- Operands that were taken off the evaluation stack.
use Rattle.std.proofs.Common.{◌≡◌, ◌∙◌, sym, ap, subst, List, ◌∷◌}
use Rattle.il_base.specs.declared.cil_values.value.Value.{Value}
use Rattle.il_base.specs.declared.cil_values.state.State.{State}
use Rattle.rules.specs.step_rules.Next.{Next}
use Rattle.rules.specs.step_rules.Words.{popped}
use Rattle.machine_numbers.specs.cil_pointers.Reaching.{with_stack}

pub popped_one : (s : State) (f : Value → List Value → State → Next) (v : Value) (rest : List Value) (n : Next) → s.top.stack ≡ v ∷ rest → n ≡ f v rest (with_stack (v ∷ rest) s) → n ≡ popped s.top.stack s (λ v stack. f v stack s)
popped_one s f v rest n e on =
    let P : List Value → Type 0 = λ vs. n ≡ popped vs (with_stack vs s) (λ v stack. f v stack (with_stack vs s)) in
    subst P (sym e) on

pub popped_two : (s : State) (f : Value → Value → List Value → State → Next) (v r : Value) (mid rest : List Value) (n : Next) → s.top.stack ≡ v ∷ mid → mid ≡ r ∷ rest → n ≡ f v r rest (with_stack (v ∷ r ∷ rest) s) → n ≡ popped s.top.stack s (λ v below. popped below s (λ r stack. f v r stack s))
popped_two s f v r mid rest n e d on =
    let P : List Value → Type 0 = λ vs. n ≡ popped vs (with_stack vs s) (λ v below. popped below (with_stack vs s) (λ r stack. f v r stack (with_stack vs s))) in
    let both : s.top.stack ≡ v ∷ r ∷ rest = e ∙ ap (λ (xs : List Value). v ∷ xs) d in
    subst P (sym both) on
