-- The laws on places.
use Rattle.std.specs.Prelude.{◌≡◌, IsTrue}
use Rattle.std.specs.Option.{option_map}
use Rattle.il_base.specs.declared.cil_values.path.Path.{Path}
use Rattle.il_base.specs.declared.cil_values.value.Value.{Value}
use Rattle.il_base.specs.declared.cil_values.state.State.{State}
use Rattle.rules.specs.step_rules.Queries.{Queries}
use Rattle.rules.specs.step_rules.Places.{place_value, with_place}
use Rattle.rules.specs.step_rules.Indirect.{indirect}
use Rattle.rules.specs.change_rules.Change.{Change}
use Rattle.rules.specs.change_rules.Moves.{move_path, move_value}
use Rattle.rules.specs.change_rules.States.{move_state}
use Rattle.rules.specs.change_rules.Keeps.{keeps_path}
use Rattle.rules.specs.change_rules.Covered.{Covered}
use Rattle.rules.specs.change_rules.Agree.{Agree}
use Rattle.rules.specs.change_rules.Lock.{FormLocks}

-- the value of a moved place in the moved state
abbrev pub PlacesRead : Type 0
PlacesRead = (k : Change) (after before : Queries) → Agree k after before → (s : State) → Covered k.keep before s → (p : Path) → IsTrue (keeps_path k.keep p)
    → place_value after (move_state k before s) (move_path k.rho p) ≡ option_map (move_value k.rho) (place_value before s p)

-- a moved value stored there
abbrev pub PlacesWritten : Type 0
PlacesWritten = (k : Change) (after before : Queries) → Agree k after before → (s : State) → Covered k.keep before s → (p : Path) → IsTrue (keeps_path k.keep p) → (v : Value)
    → with_place after (move_state k before s) (move_path k.rho p) (move_value k.rho v) ≡ option_map (move_state k before) (with_place before s p v)

pub record IndirectLock : Type 0 where
  pub read : PlacesRead
  pub written : PlacesWritten
  pub indirect : FormLocks indirect
