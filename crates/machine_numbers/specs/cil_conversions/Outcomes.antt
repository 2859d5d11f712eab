-- What a conversion comes to, as the code has it.
use Rattle.std.specs.Prelude.{ℕ, Option}
use Rattle.std.specs.Option.{option_map, option_and_then}
use Rattle.il_base.specs.declared.cil_values.value.Value.{Value}
use Rattle.machine_numbers.specs.declared.cil_arithmetic.outcome.Outcome.{Outcome}
use Rattle.machine_numbers.specs.cil_arithmetic.Outcomes.{outcome_by}
use Rattle.rules.specs.step_rules.Numbers.{Conversion, conversion, converted, operand_of}
use Rattle.rules.specs.step_rules.Integers.{number}

abbrev pub converted_by : Value → Conversion → Option Outcome
converted_by v c = option_map (λ n. outcome_by (number c.to) (converted c n)) (operand_of c.unsigned v)

-- of a value
abbrev pub convert_of : ℕ → Value → Option Outcome
convert_of code v = option_and_then (converted_by v) (conversion code)
