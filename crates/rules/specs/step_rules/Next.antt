-- The outcome of a step.
use Rattle.std.specs.Prelude.{ℕ, List}
use Rattle.il_base.specs.declared.cil_values.state.State.{State}
use Rattle.il_base.specs.declared.cil_values.end.End.{End}

-- the run goes on, with the bytes that the step prints, or it ends
pub data Next : Type 0 where
  went : State → List ℕ → Next
  over : End → Next
