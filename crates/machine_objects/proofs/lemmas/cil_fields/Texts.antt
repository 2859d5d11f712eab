-- The object of a text, whatever is on the evaluation stack.
use Rattle.std.proofs.Common.{◌≡◌, ◌∙◌, refl, sym, ap, ℕ, List, [], length, Bool, true, false}
use Rattle.std.specs.Prelude.{Option, Some, None, nat_le}
use Rattle.il_base.specs.declared.cil_values.value.Value.{Value}
use Rattle.il_base.specs.declared.cil_values.frame.Frame.{Frame}
use Rattle.il_base.specs.declared.cil_values.state.State.{State}
use Rattle.rules.specs.step_rules.Next.{Next, went, over}
use Rattle.rules.specs.step_rules.Words.{within, stopped}
use Rattle.rules.specs.step_rules.Closing.{Accessed}
use Rattle.rules.specs.step_rules.Fields.{with_value}
use Rattle.il_base.specs.declared.cil_values.value.Value.TheVariants as value
use Rattle.rules.specs.step_rules.Objects.{interned, made_text, text_object, with_text, text_limit}
use Rattle.machine_words.specs.cil_objects.Made.{goes_on}
use Rattle.machine_numbers.specs.cil_pointers.Reaching.{with_stack}

within_apart : (b : Bool) (s : State) (vs : List Value) (x y : Next) → x ≡ y → within b (with_stack vs s) x ≡ within b s y
within_apart true s vs x y e = e
within_apart false s vs x y e = refl

text_apart : (units : List ℕ) (s : State) (vs : List Value) (f : ℕ → State → Next) (at : Option ℕ) → with_text units (with_stack vs s) f at ≡ with_text units s (λ a t. f a (with_stack vs t)) at
unfolding made_text
text_apart units s vs f (Some a) = refl
text_apart units s vs f None = within_apart (nat_le (length units) text_limit) s vs _ _ refl

pub interned_apart : (units : List ℕ) (s : State) (vs : List Value) (f : ℕ → State → Next) → interned units (with_stack vs s) f ≡ interned units s (λ a t. f a (with_stack vs t))
unfolding interned text_object
interned_apart units s vs f = text_apart units s vs f (text_object s units)

-- the top frame that a word goes on with
abbrev top_in : State → Next → Frame
top_in s (went t bytes) = t.top
top_in s (over e) = s.top

within_top : (b : Bool) (s t : State) → t.top ≡ s.top → top_in s (within b s (went t [])) ≡ s.top
within_top true s t e = e
within_top false s t e = refl

text_top : (units : List ℕ) (s : State) (at : Option ℕ) → top_in s (with_text units s (λ a t. went t []) at) ≡ s.top
unfolding made_text
text_top units s (Some a) = refl
text_top units s None = within_top (nat_le (length units) text_limit) s _ refl

interned_top : (units : List ℕ) (s : State) → top_in s (interned units s (λ a t. went t [])) ≡ s.top
unfolding interned
interned_top units s = text_top units s (text_object s units)

module _ (a : Accessed) (s t : State) (units : List ℕ) (at : Option ℕ) (none : units ≡ []) (on : (f : ℕ → State → Next) → interned units s f ≡ goes_on at s t f) where
  goes_empty : (g : ℕ → State → Next) → interned [] s g ≡ goes_on at s t g
  goes_empty g = ap (λ (us : List ℕ). interned us s g) (sym none) ∙ on g

  pub same_top : (o : ℕ) → at ≡ Some o → t.top ≡ s.top
  same_top o is =
      let went_on : goes_on at s t (λ a t. went t []) ≡ went t [] = ap (λ (x : Option ℕ). goes_on x s t (λ a t. went t [])) is in
      sym (ap (top_in s) (goes_empty (λ a t. went t []) ∙ went_on)) ∙ interned_top [] s

  -- a static field that begins with the object of the empty text
  pub begun_empty : (o : ℕ) → at ≡ Some o → (vs : List Value) (f : State → Next) → interned [] (with_stack vs s) (λ o t. f (with_value a (value.Object o) t)) ≡ f (with_stack vs (with_value a (value.Object o) t))
  begun_empty o is vs f =
      interned_apart [] s vs (λ o t. f (with_value a (value.Object o) t))
      ∙ goes_empty (λ o t. f (with_value a (value.Object o) (with_stack vs t)))
      ∙ ap (λ (x : Option ℕ). goes_on x s t (λ o t. f (with_value a (value.Object o) (with_stack vs t)))) is

  pub ended_empty : at ≡ None → (vs : List Value) (f : State → Next) → interned [] (with_stack vs s) (λ o t. f (with_value a (value.Object o) t)) ≡ stopped s
  ended_empty is vs f =
      interned_apart [] s vs (λ o t. f (with_value a (value.Object o) t))
      ∙ goes_empty (λ o t. f (with_value a (value.Object o) (with_stack vs t)))
      ∙ ap (λ (x : Option ℕ). goes_on x s t (λ o t. f (with_value a (value.Object o) (with_stack vs t)))) is
