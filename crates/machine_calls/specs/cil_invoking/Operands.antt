-- Method operands.
use Rattle.il_base.specs.declared.cil_values.state.State.{State}
use Rattle.il_base.specs.declared.cil_values.resolved.Use.{Use}
use Rattle.il_base.specs.declared.cil_values.resolved.Use.TheVariants.{Method as method}
use Rattle.rules.specs.step_rules.Queries.{Queries}
use Rattle.rules.specs.step_rules.Next.{Next}
use Rattle.rules.specs.step_rules.Words.{Here, stuck, stopped}
use Rattle.rules.specs.step_rules.Closing.{Callee, closed_use}
use Rattle.machine_words.specs.cil_closing.Callees.{callee_by}
use Rattle.machine_calls.specs.declared.cil_invoking.operands.Operand.{Operand}
use Rattle.machine_calls.specs.declared.cil_invoking.operands.Operand.TheVariants as operand

-- the method of an operand in the running method
abbrev pub method_operand : Queries → Here → Use → State → (Callee → Next) → Next
method_operand q here used s f = elim used [ method m ↦ closed_use q here m s f | _ ↦ stuck s ]

-- goes on with a method, or ends the run
abbrev pub goes_with_operand : Operand → State → (Callee → Next) → Next
goes_with_operand (operand.Named c) s f = f (callee_by c)
goes_with_operand operand.Meaningless s f = stopped s
goes_with_operand operand.Another s f = stuck s
