-- What an instruction comes to that gives one value, or none.
use Rattle.std.specs.Prelude.{List, ◌∷◌, Result, Ok, Err}
use Rattle.il_base.specs.declared.cil_values.value.Value.{Value}
use Rattle.il_base.specs.declared.cil_values.resolved.Instruction.{Instruction}
use Rattle.il_base.specs.declared.cil_values.state.State.{State}
use Rattle.rules.specs.step_rules.Queries.{Queries}
use Rattle.rules.specs.step_rules.Next.{Next}
use Rattle.rules.specs.step_rules.Words.{Here, stuck, stopped, goes}
use Rattle.rules.specs.step_rules.Raising.{raise}
use Rattle.machine_numbers.specs.declared.cil_operands.refusal.Refusal.{Refusal}
use Rattle.machine_numbers.specs.declared.cil_operands.refusal.Refusal.TheVariants.{Raises, Stopped, Stuck}

-- the exception that is raised, or how the run ends
unfoldable pub refused : Queries → State → Refusal → Next
refused q s (Raises name) = raise q name s
refused q s Stopped = stopped s
refused q s Stuck = stuck s

-- the value on this stack, which is what is left below the operands
unfoldable pub outcome_of : Queries → Here → Instruction → State → List Value → Result Value Refusal → Next
outcome_of q here i s stack (Ok v) = goes here i (v ∷ stack) s
outcome_of q here i s stack (Err why) = refused q s why
