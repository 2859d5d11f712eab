-- What dispatch gives, as the code has it.
use Rattle.il_base.specs.declared.cil_values.state.State.{State}
use Rattle.rules.specs.step_rules.Next.{Next}
use Rattle.rules.specs.step_rules.Words.{stuck, stopped}
use Rattle.rules.specs.step_rules.Closing.{Callee}
use Rattle.machine_words.specs.cil_closing.Callees.{callee_by}
use Rattle.machine_frames.specs.declared.cil_dispatch.dispatching.Target.{Target}
use Rattle.machine_frames.specs.declared.cil_dispatch.dispatching.Target.TheVariants.{Itself, Other, Stuck, Stopped}

-- goes on with the called method itself, or with another, or ends the run
abbrev pub goes_to : Target → Callee → State → (Callee → Next) → Next
goes_to Itself c s f = f c
goes_to (Other d) c s f = f (callee_by d)
goes_to Stuck c s f = stuck s
goes_to Stopped c s f = stopped s
