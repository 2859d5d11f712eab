-- What an instruction on operands comes to, as the code has it.
use Rattle.std.specs.Prelude.{ℕ, ℤ, List, ◌∷◌, Bool, Option, Some, None, if◌then◌else◌}
use Rattle.std.specs.Option.{option_map, option_and_then}
use Rattle.il_base.specs.declared.cil_values.value.Value.{Value}
use Rattle.il_base.specs.declared.cil_values.resolved.Instruction.{Instruction}
use Rattle.il_base.specs.declared.cil_values.state.State.{State}
use Rattle.machine_numbers.specs.declared.cil_arithmetic.outcome.Outcome.{Outcome}
use Rattle.machine_numbers.specs.declared.cil_arithmetic.outcome.Outcome.TheVariants as outcome
use Rattle.rules.specs.step_rules.Queries.{Queries}
use Rattle.rules.specs.step_rules.Next.{Next}
use Rattle.rules.specs.step_rules.Words.{Here, given, goes, truth_value}
use Rattle.rules.specs.step_rules.Comparisons.{Numbers, Test, numbers, test}
use Rattle.rules.specs.step_rules.Raising.{raise}
use Rattle.rules.specs.step_rules.Numbers.{arithmetic, comparison, is_shift, shift, shift_count}
use Rattle.machine_numbers.specs.cil_arithmetic.Outcomes.{gives, outcome_by}
use Rattle.machine_numbers.specs.cil_conversions.Outcomes.{convert_of}

-- of two numbers of one kind
abbrev pub computed : ℕ → Numbers → Option Outcome
computed code n = option_map (outcome_by n.back) (arithmetic code n.width n.left n.right)

abbrev pub shifted_by : ℕ → Value → Value → Option Outcome
shifted_by code a b = option_and_then (λ count. option_map gives (shift code a count)) (shift_count b)

abbrev pub compared_to : Value → Value → Test → Option Outcome
compared_to a b t = option_map (λ yes. gives (truth_value yes)) (test t a b)

abbrev pub binary_by : ℕ → Value → Value → Option Test → Option Outcome
binary_by code a b (Some t) = compared_to a b t
binary_by code a b None = if is_shift code then shifted_by code a b else option_and_then (computed code) (numbers a b)

-- of the lower operand and the upper one
abbrev pub binary_of : ℕ → Value → Value → Option Outcome
binary_of code a b = binary_by code a b (comparison code)

-- what an instruction comes to, over the stack below its operands
abbrev pub finished : Queries → Here → Instruction → List Value → State → Outcome → Next
finished q here i stack s (outcome.Gives v) = goes here i (v ∷ stack) s
finished q here i stack s (outcome.Raises name) = raise q name s

-- a state with another evaluation stack
abbrev pub with_stack : List Value → State → State
with_stack vs s = record s { top = record s.top { stack = vs } }

-- an instruction with its operands off the stack: what raises has them there
abbrev pub two_over : Queries → Here → Instruction → Value → Value → State → Next
two_over q here i a b s =
    let whole = with_stack (b ∷ a ∷ s.top.stack) s in given (binary_of i.opcode a b) whole (finished q here i s.top.stack whole)

abbrev pub one_over : Queries → Here → Instruction → Value → State → Next
one_over q here i v s = let whole = with_stack (v ∷ s.top.stack) s in given (convert_of i.opcode v) whole (finished q here i s.top.stack whole)
