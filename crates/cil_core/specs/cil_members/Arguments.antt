-- Arguments of members, as the code has them.
use Rattle.std.specs.Prelude.{List}
use Rattle.il_base.specs.declared.core_table.names.CoreName.TheVariants.{NullReferenceException}
use Rattle.il_base.specs.declared.cil_values.value.Value.{Value}
use Rattle.il_base.specs.declared.cil_values.state.State.{State}
use Rattle.rules.specs.step_rules.Queries.{Queries}
use Rattle.rules.specs.step_rules.Next.{Next}
use Rattle.rules.specs.step_rules.Words.{stuck, stopped}
use Rattle.rules.specs.step_rules.Raising.{raise}
use Rattle.cil_core.specs.declared.cil_members.arguments.This.{This}
use Rattle.cil_core.specs.declared.cil_members.arguments.This.TheVariants as this
use Rattle.cil_core.specs.declared.cil_members.arguments.Taken.{Taken}
use Rattle.cil_core.specs.declared.cil_members.arguments.Taken.TheVariants as taken

-- goes on with `this`, or ends
abbrev pub this_next : This → Queries → State → (Value → Next) → Next
this_next (this.Is v) q s f = f v
this_next this.Null q s f = raise q NullReferenceException s
this_next this.Stuck q s f = stuck s
this_next this.Stopped q s f = stopped s

-- goes on with the arguments, or ends
abbrev pub args_next : Taken → Queries → State → (List Value → Next) → Next
args_next (taken.Are vs) q s f = f vs
args_next taken.Null q s f = raise q NullReferenceException s
args_next taken.Stuck q s f = stuck s
args_next taken.Stopped q s f = stopped s
