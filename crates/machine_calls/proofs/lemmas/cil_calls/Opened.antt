-- `call` and `callvirt` by their operand.
use Rattle.std.proofs.Common.{◌≡◌, refl}
use Rattle.il_base.specs.declared.cil_values.state.State.{State}
use Rattle.il_base.specs.declared.cil_values.resolved.Instruction.{Instruction}
use Rattle.rules.specs.step_rules.Next.{Next}
use Rattle.rules.specs.step_rules.Queries.{Queries}
use Rattle.rules.specs.step_rules.Words.{Here, ends_at}
use Rattle.rules.specs.step_rules.Closing.{Callee}
use Rattle.rules.specs.step_rules.Calls.{call, calls}
use Rattle.machine_calls.specs.cil_invoking.Operands.{method_operand, goes_with_operand}
use Rattle.machine_calls.specs.declared.cil_invoking.operands.Operand.{Operand}

pub opened : (q : Queries) (here : Here) (i : Instruction) (s : State) → call q here i s ≡ ends_at s (method_operand q here i.operand s (calls q here i s))
unfolding call
opened q here i s = refl

pub by_operand : (q : Queries) (here : Here) (i : Instruction) (s : State) (found : Operand) → ((f : Callee → Next) → method_operand q here i.operand s f ≡ goes_with_operand found s f) → method_operand q here i.operand s (calls q here i s) ≡ goes_with_operand found s (calls q here i s)
by_operand q here i s found is = is (calls q here i s)
