-- Two worlds of files that link, of which the one has the kept rows of the other, answer a step alike, and run alike.
use Rattle.std.specs.Prelude.{◌≡◌, ℕ, None, Bool, List, IsTrue}
use Rattle.il_base.specs.declared.world_model.record.AsmRec.{AsmRec}
use Rattle.rules.specs.declared.link_rules.row_at.RowAt.{RowAt}
use Rattle.rules.specs.link_rules.Linked.{assemblies, link_fault_of}
use Rattle.base_laws.specs.walk_laws.Walks.{SlotsWhole}
use Rattle.rules.specs.step_rules.Run.{run_from}
use Rattle.rules.specs.view_rules.Answers.{queries_of}
use Rattle.rules.specs.change_rules.Change.{Change}
use Rattle.rules.specs.change_rules.Keeps.{can_call}
use Rattle.rules.specs.change_rules.Agree.{Agree}
use Rattle.rules.specs.world_change_rules.Places.{Places}
use Rattle.rules.specs.world_change_rules.Rows.{RowsMove}
use Rattle.run_laws.specs.dispatch_laws.Kept.{Apart}
use Rattle.run_laws.specs.lock_steps.Laws.{move_outcome}
use Rattle.run_laws.specs.agree_laws.Closed.{Closed}

-- the outputs have the kept rows of the inputs
pub record IsTrimmed (k : Change) (kept : RowAt → Bool) (p : Places) (outputs inputs : List AsmRec) : Type 0 where
  pub linked : link_fault_of outputs ≡ None
  pub sound : link_fault_of inputs ≡ None
  pub slots_after : SlotsWhole (assemblies outputs)
  pub slots_before : SlotsWhole (assemblies inputs)
  pub moves : RowsMove k kept p (assemblies outputs) (assemblies inputs)
  pub apart : Apart k.keep p (assemblies inputs)
  pub closed : Closed k.keep kept (assemblies inputs)

abbrev pub TrimmedAgrees : Type 0
TrimmedAgrees =
    (k : Change) (kept : RowAt → Bool) (p : Places) (outputs inputs : List AsmRec) → IsTrimmed k kept p outputs inputs → Agree k (queries_of (assemblies outputs)) (queries_of (assemblies inputs))

abbrev pub TrimmedRuns : Type 0
TrimmedRuns =
    (k : Change) (kept : RowAt → Bool) (p : Places) (outputs inputs : List AsmRec) → IsTrimmed k kept p outputs inputs → (m : ℕ) → IsTrue (can_call k.keep m) → (bytes : List ℕ) (n : ℕ)
    → run_from (queries_of (assemblies outputs)) (k.rho.method m) bytes n ≡ move_outcome k.rho (run_from (queries_of (assemblies inputs)) m bytes n)
