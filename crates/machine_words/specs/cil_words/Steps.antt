-- What the code of a step answers, as the definition has it.
use Rattle.std.specs.Prelude.{ℕ, List}
use Rattle.il_base.specs.declared.cil_values.state.State.{State}
use Rattle.rules.specs.step_rules.Next.{Next, went, over}
use Rattle.rules.specs.step_rules.Words.{Here, here_in}
use Rattle.machine_words.specs.declared.cil_words.step_out.StepOut.{StepOut}
use Rattle.machine_words.specs.declared.cil_words.step_out.StepOut.TheVariants.{Went, Over}
use Rattle.machine_words.specs.declared.cil_words.body.Body.{Body}

-- an answer, the state that it left and the bytes that it printed, as the outcome of a step
abbrev pub next_of : StepOut → State → List ℕ → Next
next_of Went s bytes = went s bytes
next_of (Over e) s bytes = over e

-- what the top frame of a state runs, where this is its body
abbrev pub here_by : Body → State → Here
here_by b s = here_in s.top b.method.now b.code.now
