-- Bodies of methods by their places in the world.
use Rattle.std.specs.Prelude.{ℕ, Option}
use Rattle.std.specs.Option.{option_and_then}
use Rattle.il_base.specs.declared.cil_values.definition.Method.{Method}
use Rattle.il_base.specs.declared.cil_values.resolved.Code.{Code}
use Rattle.il_base.specs.declared.cil_values.resolved.Instruction.{Instruction}
use Rattle.rules.specs.step_rules.Queries.{Queries}
use Rattle.rules.specs.step_rules.Words.{good, instruction_at}

-- the body of a method, where it has one that can run
abbrev pub code_of : Method → Option Code
code_of m = option_and_then good m.body

-- the instruction of a method's body that begins at an offset
abbrev pub instruction_of : Queries → ℕ → ℕ → Option Instruction
instruction_of q m at = option_and_then (λ code. instruction_at code at) (option_and_then code_of (q.method m))
