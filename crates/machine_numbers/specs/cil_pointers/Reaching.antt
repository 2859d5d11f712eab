-- What an instruction finds at the place of a pointer, as the code has it.
use Rattle.std.specs.Prelude.{List}
use Rattle.il_base.specs.declared.core_table.names.CoreName.TheVariants.{NullReferenceException}
use Rattle.il_base.specs.declared.cil_values.value.Value.{Value}
use Rattle.il_base.specs.declared.cil_values.path.Path.{Path}
use Rattle.il_base.specs.declared.cil_values.state.State.{State}
use Rattle.rules.specs.step_rules.Queries.{Queries}
use Rattle.rules.specs.step_rules.Next.{Next}
use Rattle.rules.specs.step_rules.Words.{stuck, stopped}
use Rattle.rules.specs.step_rules.Raising.{raise}
use Rattle.machine_numbers.specs.declared.cil_pointers.reached.Reached.{Reached}
use Rattle.machine_numbers.specs.declared.cil_pointers.reached.Reached.TheVariants.{At, Null, Gone, Refused}

-- a state with another evaluation stack
abbrev pub with_stack : List Value → State → State
with_stack vs s = record s { top = record s.top { stack = vs } }

-- how an instruction goes on
abbrev pub reached_by : Queries → Reached → State → (Path → Value → Next) → Next
reached_by q (At p v) s f = f p v
reached_by q Null s f = raise q NullReferenceException s
reached_by q Gone s f = stopped s
reached_by q Refused s f = stuck s
