-- The laws on exceptions.
use Rattle.std.specs.Prelude.{ℕ, IsTrue}
use Rattle.il_base.specs.declared.core_table.names.CoreName.{CoreName}
use Rattle.il_base.specs.declared.cil_values.state.State.{State}
use Rattle.rules.specs.step_rules.Queries.{Queries}
use Rattle.rules.specs.step_rules.Raising.{throw, raise}
use Rattle.rules.specs.step_rules.Throws.{throw_form, leave, end_finally}
use Rattle.rules.specs.change_rules.Change.{Change}
use Rattle.rules.specs.change_rules.States.{move_state}
use Rattle.rules.specs.change_rules.Covered.{Covered}
use Rattle.rules.specs.change_rules.Agree.{Agree, is_asked}
use Rattle.rules.specs.change_rules.Lock.{Lock, FormLocks}

-- an exception that is raised finds the moved handler
abbrev pub ThrowLocks : Type 0
ThrowLocks = (k : Change) (after before : Queries) → Agree k after before → (a : ℕ) (s : State) → Covered k.keep before s
    → Lock k before (throw after a (move_state k before s)) (throw before a s)

-- one of the core library that a step makes, too
abbrev pub RaiseLocks : Type 0
RaiseLocks = (k : Change) (after before : Queries) → Agree k after before → (n : CoreName) → IsTrue (is_asked n) → (s : State) → Covered k.keep before s
    → Lock k before (raise after n (move_state k before s)) (raise before n s)

pub record ThrowsLock : Type 0 where
  pub throws : ThrowLocks
  pub raises : RaiseLocks
  pub throw_form : FormLocks throw_form
  pub leave : FormLocks leave
  pub end_finally : FormLocks end_finally
