-- Two worlds in step: a step in one comes to the same as in the other, with new numbers, and names only what is kept.
use Rattle.std.specs.Prelude.{◌≡◌, ℕ, List, Bool, true, Option, Some, None, IsTrue}
use Rattle.std.specs.List.{list_all}
use Rattle.std.specs.Option.{option_map}
use Rattle.il_base.specs.declared.cil_values.value.Value.{Value}
use Rattle.il_base.specs.declared.cil_values.resolved.Instruction.{Instruction}
use Rattle.rules.specs.step_rules.Queries.{Queries}
use Rattle.il_base.specs.declared.cil_values.state.State.{State}
use Rattle.rules.specs.step_rules.Next.{Next}
use Rattle.rules.specs.step_rules.Words.{Form, Here, here_of, instruction_at}
use Rattle.rules.specs.step_rules.CoreWords.{Gives, CoreForm}
use Rattle.rules.specs.change_rules.Change.{Keep, Change}
use Rattle.rules.specs.change_rules.Moves.{move_value, move_values}
use Rattle.rules.specs.change_rules.Answers.{move_instruction, move_here}
use Rattle.rules.specs.change_rules.States.{move_state, move_next}
use Rattle.rules.specs.change_rules.Keeps.{shows_expr, keeps_value, keeps_values, keeps_instruction, keeps_code, keeps_method}
use Rattle.rules.specs.change_rules.Covered.{Covered, CoveredNext}
use Rattle.rules.specs.change_rules.Agree.{Agree}

pub record Lock (k : Change) (q : Queries) (after before : Next) : Type 0 where
  pub same : after ≡ move_next k q before
  pub kept : CoveredNext k.keep q before

-- ---- a form of instruction

-- what runs in a state, and that its parts are kept
pub record Runs (k : Keep) (q : Queries) (here : Here) (i : Instruction) (s : State) : Type 0 where
  pub runs : here_of q s.top ≡ Some here
  pub is_next : instruction_at here.code s.top.at ≡ Some i
  pub method : IsTrue (keeps_method k q here.method)
  pub code : IsTrue (keeps_code k q here.code)
  pub targs : IsTrue (list_all (shows_expr k) here.targs)
  pub margs : IsTrue (list_all (shows_expr k) here.margs)
  pub instruction : IsTrue (keeps_instruction k q i)

-- a further premise on the state that a form of instruction could have: none has one
abbrev pub Ready : Change → Queries → Here → Instruction → State → Type 0
Ready k q here i s = Unit {0}

-- the law of a form
abbrev pub FormLocks : Form → Type 0
FormLocks form = (k : Change) (after before : Queries) → Agree k after before → (here : Here) (i : Instruction) (s : State)
    → Runs k.keep before here i s → Ready k before here i s → Covered k.keep before s
    → Lock k before (form after (move_here k.rho here) (move_instruction k.rho i) (move_state k before s)) (form before here i s)

-- ---- a member of the core library

abbrev pub keeps_result : Keep → Option Value → Bool
keeps_result k None = true
keeps_result k (Some v) = keeps_value k v

-- how two calls go on after a member
abbrev pub GivesLock : Change → Queries → Gives → Gives → Type 0
GivesLock k q after before = (s : State) (v : Option Value) (bytes : List ℕ) → Covered k.keep q s → IsTrue (keeps_result k.keep v)
    → Lock k q (after (move_state k q s) (option_map (move_value k.rho) v) bytes) (before s v bytes)

-- the law of a member
abbrev pub CoreLocks : CoreForm → Type 0
CoreLocks form = (k : Change) (after before : Queries) → Agree k after before → (args : List Value) (s : State) (then now : Gives)
    → IsTrue (keeps_values k.keep args) → Covered k.keep before s → GivesLock k before then now
    → Lock k before (form after (move_values k.rho args) (move_state k before s) then) (form before args s now)
