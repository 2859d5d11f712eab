-- Loads and stores through pointers, over the stack below their operands.
use Rattle.std.specs.Prelude.{List, ◌∷◌, Option}
use Rattle.il_base.specs.declared.cil_values.value.Value.{Value}
use Rattle.il_base.specs.declared.cil_values.path.Path.{Path}
use Rattle.il_base.specs.declared.cil_values.resolved.Instruction.{Instruction}
use Rattle.il_base.specs.declared.cil_values.state.State.{State}
use Rattle.rules.specs.step_rules.Queries.{Queries}
use Rattle.rules.specs.step_rules.Next.{Next}
use Rattle.rules.specs.step_rules.Words.{Here, given, goes}
use Rattle.rules.specs.step_rules.Stores.{Access, loaded}
use Rattle.rules.specs.step_rules.Indirect.{through, puts}

-- a value that is loaded
abbrev pub gives : Here → Instruction → List Value → State → Option Value → Next
gives here i stack s v = given v s (λ w. goes here i (w ∷ stack) s)

abbrev pub load_over : Queries → Here → Instruction → Access → Value → List Value → State → Next
load_over q here i a r stack s = through q a r s (λ p v. gives here i stack s (loaded a v))

abbrev pub store_over : Queries → Here → Instruction → Access → Value → Value → List Value → State → Next
store_over q here i a r v stack s = through q a r s (λ p old. puts q here i s a p v stack)

-- a value that is stored as it was loaded
abbrev pub puts_loaded : Queries → Here → Instruction → Access → Path → List Value → State → Option Value → Next
puts_loaded q here i a to stack s v = given v s (λ w. puts q here i s a to w stack)

-- `cpobj` with the place of its destination
abbrev pub copy_from : Queries → Here → Instruction → Access → Path → Value → List Value → State → Next
copy_from q here i a to from stack s = through q a from s (λ o v. puts_loaded q here i a to stack s (loaded a v))

abbrev pub copy_over : Queries → Here → Instruction → Access → Value → Value → List Value → State → Next
copy_over q here i a to from stack s = through q a to s (λ p old. copy_from q here i a p from stack s)
