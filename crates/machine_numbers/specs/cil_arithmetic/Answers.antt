-- What operations on numbers come to, as the code has it.
use Rattle.std.specs.Prelude.{ℕ, ◌+◌, ◌*◌, ◌==◌, ℤ, ◌+ℤ◌, ◌-ℤ◌, ◌*ℤ◌, List, ◌∷◌, Option, Some, None, if◌then◌else◌}
use Rattle.std.specs.Int.{Width, cast_unsigned}
use Rattle.il_base.specs.declared.opcode.TheConstants as opcode
use Rattle.std.specs.Option.{option_map, option_and_then}
use Rattle.il_base.specs.declared.core_table.names.CoreName.{CoreName}
use Rattle.il_base.specs.declared.core_table.names.CoreName.TheVariants.{OverflowException}
use Rattle.il_base.specs.declared.cil_values.value.Value.{Value}
use Rattle.il_base.specs.declared.cil_values.resolved.Instruction.{Instruction}
use Rattle.il_base.specs.declared.cil_values.state.State.{State}
use Rattle.machine_numbers.specs.declared.cil_arithmetic.answer.Answer.{Answer}
use Rattle.machine_numbers.specs.declared.cil_arithmetic.answer.Answer.TheVariants as answer
use Rattle.rules.specs.step_rules.Queries.{Queries}
use Rattle.rules.specs.step_rules.Next.{Next}
use Rattle.rules.specs.step_rules.Words.{Here, goes}
use Rattle.rules.specs.step_rules.Comparisons.{Numbers}
use Rattle.rules.specs.step_rules.Raising.{raise}
use Rattle.rules.specs.step_rules.Numbers as rules

abbrev pub or_overflow : {T : Type 0} → Option T → Answer T
or_overflow None = answer.Raises OverflowException
or_overflow (Some n) = answer.Is n

-- an answer of the code as the definition has it
abbrev pub answer_by : Answer ℤ → rules.Answer
answer_by (answer.Is n) = rules.is n
answer_by (answer.Raises name) = rules.raises name

-- the arithmetic that is checked for overflow
abbrev pub checked : ℕ → Width → ℤ → ℤ → Option rules.Answer
checked code w a b =
    if code == opcode.ADD_OVF then Some (rules.exactly w (a +ℤ b))
    else if code == opcode.ADD_OVF_UN then Some (rules.exactly_unsigned w (cast_unsigned w a + cast_unsigned w b))
    else if code == opcode.SUB_OVF then Some (rules.exactly w (a -ℤ b))
    else if code == opcode.SUB_OVF_UN then Some (rules.minus_unsigned w (cast_unsigned w a) (cast_unsigned w b))
    else if code == opcode.MUL_OVF then Some (rules.exactly w (a *ℤ b))
    else if code == opcode.MUL_OVF_UN then Some (rules.exactly_unsigned w (cast_unsigned w a * cast_unsigned w b))
    else None
