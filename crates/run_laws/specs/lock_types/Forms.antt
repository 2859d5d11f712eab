-- The law of a form whose instructions show types: it is asked of those alone.
use Rattle.std.specs.Prelude.{◌≡◌}
use Rattle.il_base.specs.declared.body as body
use Rattle.il_base.specs.declared.cil_values.resolved.Instruction.{Instruction}
use Rattle.il_base.specs.declared.cil_values.state.State.{State}
use Rattle.rules.specs.step_rules.Queries.{Queries}
use Rattle.rules.specs.step_rules.Words.{Form, Here}
use Rattle.rules.specs.change_rules.Change.{Change}
use Rattle.rules.specs.change_rules.Answers.{move_instruction, move_here}
use Rattle.rules.specs.change_rules.States.{move_state}
use Rattle.rules.specs.change_rules.Covered.{Covered}
use Rattle.rules.specs.change_rules.Agree.{Agree}
use Rattle.rules.specs.change_rules.Lock.{Lock, Runs}

abbrev pub LocksOf : body.Form.Form → Form → Type 0
LocksOf which form = (k : Change) (after before : Queries) → Agree k after before → (here : Here) (i : Instruction) (s : State)
    → i.form ≡ which → Runs k.keep before here i s → Covered k.keep before s
    → Lock k before (form after (move_here k.rho here) (move_instruction k.rho i) (move_state k before s)) (form before here i s)
