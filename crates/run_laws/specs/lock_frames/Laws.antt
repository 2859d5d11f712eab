-- The laws on frames.
use Rattle.std.specs.Prelude.{◌≡◌, ℕ, List, Bool, Some, IsTrue}
use Rattle.il_base.specs.declared.world_model.expr.TypeExpr.{TypeExpr}
use Rattle.il_base.specs.declared.cil_values.value.Value.{Value}
use Rattle.il_base.specs.declared.cil_values.state.State.{State}
use Rattle.il_base.specs.declared.cil_values.frame.Waits.{Waits}
use Rattle.rules.specs.step_rules.Queries.{Queries}
use Rattle.rules.specs.step_rules.Next.{Next}
use Rattle.rules.specs.step_rules.Closing.{Callee}
use Rattle.rules.specs.step_rules.Frames.{enter, definition_of, started}
use Rattle.rules.specs.step_rules.Dispatch.{dispatched}
use Rattle.rules.specs.change_rules.Change.{Keep, Change}
use Rattle.rules.specs.change_rules.Moves.{move_expr, move_values}
use Rattle.rules.specs.change_rules.Answers.{move_callee}
use Rattle.rules.specs.change_rules.States.{move_waits, move_state}
use Rattle.rules.specs.change_rules.Keeps.{keeps_expr, keeps_made, keeps_use, calls_own, keeps_values, keeps_method, keeps_signature}
use Rattle.rules.specs.change_rules.Covered.{keeps_waits, Covered}
use Rattle.rules.specs.change_rules.Agree.{Agree}
use Rattle.rules.specs.change_rules.Lock.{Lock}

-- a method of which all is kept
pub record Keeps (k : Keep) (q : Queries) (c : Callee) : Type 0 where
  pub named : IsTrue (keeps_use k c.called)
  pub method : IsTrue (keeps_method k q c.method)
  pub signature : IsTrue (keeps_signature k c.signature)

abbrev pub EnterLocks : Type 0
EnterLocks = (k : Change) (after before : Queries) → Agree k after before → (c : Callee) (args : List Value) (w : Waits) (s : State)
    → Keeps k.keep before c → IsTrue (keeps_values k.keep args) → IsTrue (keeps_waits k.keep w) → Covered k.keep before s
    → Lock k before (enter after (move_callee k.rho c) (move_values k.rho args) (move_waits k.rho w) (move_state k before s)) (enter before c args w s)

-- of a type whose initializer an access can begin
abbrev pub StartedLocks : Type 0
StartedLocks = (k : Change) (after before : Queries) → Agree k after before → (by_field : Bool) (e : TypeExpr) (s : State) (then now : State → Next)
    → IsTrue (keeps_expr k.keep e) → ((t : ℕ) → definition_of e ≡ Some t → IsTrue (k.keep.begun t)) → Covered k.keep before s
    → Lock k before (then (move_state k before s)) (now s)
    → Lock k before (started after by_field (move_expr k.rho e) (move_state k before s) then) (started before by_field e s now)

-- for an object of a type
abbrev pub DispatchLocks : Type 0
DispatchLocks = (k : Change) (after before : Queries) → Agree k after before → (c : Callee) (e : TypeExpr) (s : State) (then now : Callee → Next)
    → Keeps k.keep before c → IsTrue (calls_own before c.called) → IsTrue (keeps_made k.keep e) → ((d : Callee) → Keeps k.keep before d → Lock k before (then (move_callee k.rho d)) (now d))
    → Lock k before (dispatched after (move_callee k.rho c) (move_expr k.rho e) (move_state k before s) then) (dispatched before c e s now)

pub record FramesLock : Type 0 where
  pub enter : EnterLocks
  pub started : StartedLocks
  pub dispatched : DispatchLocks
