-- One text, or two that are looked at together.
use Rattle.std.proofs.Common.{◌≡◌, refl}
use Rattle.std.specs.Prelude.{Option, Some, None}
use Rattle.std.specs.Option.{option_map, option_and_then}
use Rattle.il_base.specs.declared.cil_values.value.Value.{Value}
use Rattle.il_base.specs.declared.cil_values.state.State.{State}
use Rattle.rules.specs.step_rules.Next.{Next}
use Rattle.rules.specs.step_rules.Words.{given}
use Rattle.rules.specs.step_rules.CoreTexts.{TextOrNull, text_or_null, compared_texts}
use Rattle.cil_core.specs.cil_text_members.Pairs.{of_both}

pub one_by : {A B : Type 0} (f : B → A) (g : A → Next) (s : State) (x : Option B) → given x s (λ y. g (f y)) ≡ given (option_map f x) s g
one_by f g s None = refl
one_by f g s (Some y) = refl

first_by : {A : Type 0} (f : TextOrNull → TextOrNull → A) (g : A → Next) (s : State) (x y : Option TextOrNull) → given x s (λ x. given y s (λ y. g (f x y))) ≡ given (option_and_then (λ x. option_map (f x) y) x) s g
first_by f g s None y = refl
first_by f g s (Some x) y = one_by (f x) g s y

pub both_by : {A : Type 0} (f : TextOrNull → TextOrNull → A) (g : A → Next) (s : State) (v w : Value) → compared_texts s v w (λ x y. g (f x y)) ≡ given (of_both f s v w) s g
both_by f g s v w = first_by f g s (text_or_null s v) (text_or_null s w)
