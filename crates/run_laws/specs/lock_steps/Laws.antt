-- The laws on steps and runs.
use Rattle.std.specs.Prelude.{◌≡◌, ℕ, List, IsTrue}
use Rattle.std.specs.Option.{option_map}
use Rattle.il_base.specs.declared.cil_values.state.State.{State}
use Rattle.rules.specs.step_rules.Queries.{Queries}
use Rattle.rules.specs.step_rules.Step.{step}
use Rattle.rules.specs.step_rules.Run.{Outcome, run, run_from}
use Rattle.rules.specs.change_rules.Change.{Rho, Change}
use Rattle.rules.specs.change_rules.States.{move_state, move_end}
use Rattle.rules.specs.change_rules.Keeps.{can_call}
use Rattle.rules.specs.change_rules.Covered.{Covered}
use Rattle.rules.specs.change_rules.Agree.{Agree}
use Rattle.rules.specs.change_rules.Lock.{Lock}

-- a step of the moved state is the moved step, and names only what is kept
abbrev pub StepLocks : Type 0
StepLocks = (k : Change) (after before : Queries) → Agree k after before → (s : State) → Covered k.keep before s
    → Lock k before (step after (move_state k before s)) (step before s)

-- the same bytes are printed; where the run ended has the new number of its method
abbrev pub move_outcome : Rho → Outcome → Outcome
move_outcome r o = record o { end = option_map (move_end r) o.end }

-- n steps from a state
abbrev pub RunMoves : Type 0
RunMoves = (k : Change) (after before : Queries) → Agree k after before → (n : ℕ) (s : State) → Covered k.keep before s
    → run after n (move_state k before s) ≡ move_outcome k.rho (run before n s)

-- n steps from an entry point, with the bytes of the input
abbrev pub RunFromMoves : Type 0
RunFromMoves = (k : Change) (after before : Queries) → Agree k after before → (m : ℕ) → IsTrue (can_call k.keep m) → (bytes : List ℕ) (n : ℕ)
    → run_from after (k.rho.method m) bytes n ≡ move_outcome k.rho (run_from before m bytes n)
