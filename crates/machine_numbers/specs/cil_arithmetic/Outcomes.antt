-- What an instruction on operands comes to, as the code has it.
use Rattle.std.specs.Prelude.{ℤ}
use Rattle.il_base.specs.declared.cil_values.value.Value.{Value}
use Rattle.machine_numbers.specs.declared.cil_arithmetic.outcome.Outcome.{Outcome}
use Rattle.machine_numbers.specs.declared.cil_arithmetic.outcome.Outcome.TheVariants as outcome
use Rattle.rules.specs.step_rules.Numbers.{Answer, is, raises}

-- the value that a number is
abbrev pub outcome_by : (ℤ → Value) → Answer → Outcome
outcome_by back (is n) = outcome.Gives (back n)
outcome_by back (raises name) = outcome.Raises name

abbrev pub gives : Value → Outcome
gives v = outcome.Gives v
