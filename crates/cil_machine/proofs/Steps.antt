-- A step by what the top frame runs.
use Rattle.std.proofs.Common.{◌≡◌, Option, Some, None, sym, ap, ◌∙◌}
use Rattle.il_base.specs.declared.cil_values.state.State.{State}
use Rattle.il_base.specs.declared.cil_values.resolved.Instruction.{Instruction}
use Rattle.rules.specs.step_rules.Queries.{Queries}
use Rattle.rules.specs.step_rules.Words.{Here, given, stuck}
use Rattle.rules.specs.step_rules.Step.{execute, step}
use Rattle.machine_calls.specs.cil_returns.Running.{running_of}
use Rattle.machine_calls.proofs.lemmas.cil_returns.RunningFrames.{given_running}

module _ (q : Queries) (s : State) where
  opened : step q s ≡ given (running_of q s.top) s (λ p. execute q p.0 p.1 s)
  unfolding step
  opened = given_running q s.top s (λ here i. execute q here i s)

  pub step_nowhere : running_of q s.top ≡ None → stuck s ≡ step q s
  step_nowhere none = sym (opened ∙ ap (λ (o : Option (Here × Instruction)). given o s (λ p. execute q p.0 p.1 s)) none)

  pub step_at : (here : Here) (i : Instruction) → running_of q s.top ≡ Some (here, i) → execute q here i s ≡ step q s
  step_at here i some = sym (opened ∙ ap (λ (o : Option (Here × Instruction)). given o s (λ p. execute q p.0 p.1 s)) some)
