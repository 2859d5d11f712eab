-- Two texts that are looked at together, as the code has them.
use Rattle.std.specs.Prelude.{Option}
use Rattle.std.specs.Option.{option_map, option_and_then}
use Rattle.il_base.specs.declared.cil_values.value.Value.{Value}
use Rattle.il_base.specs.declared.cil_values.state.State.{State}
use Rattle.rules.specs.step_rules.CoreTexts.{TextOrNull, text_or_null}

-- what a text and a value are to each other; None where the value is neither null nor a string
abbrev pub against : {A : Type 0} → (TextOrNull → TextOrNull → A) → State → TextOrNull → Value → Option A
against f s x w = option_map (f x) (text_or_null s w)

abbrev pub of_both : {A : Type 0} → (TextOrNull → TextOrNull → A) → State → Value → Value → Option A
of_both f s v w = option_and_then (λ x. against f s x w) (text_or_null s v)
