-- Any number of steps.
use Rattle.std.proofs.Common.{◌≡◌, ℕ, zero, suc, refl, ap, ◌∙◌}
use Rattle.il_base.specs.declared.cil_values.state.State.{State}
use Rattle.rules.specs.step_rules.Queries.{Queries}
use Rattle.rules.specs.step_rules.Next.{Next, went, over}
use Rattle.rules.specs.step_rules.Step.{step}
use Rattle.rules.specs.step_rules.Run.{Outcome, printed_before, run}
use Rattle.rules.specs.step_rules.Run as runs
use Rattle.rules.specs.change_rules.Change.{Change}
use Rattle.rules.specs.change_rules.States.{move_state, move_next}
use Rattle.rules.specs.change_rules.Covered.{Covered, CoveredNext}
use Rattle.rules.specs.change_rules.Agree.{Agree}
use Rattle.rules.specs.change_rules.Lock.{Lock}
use Rattle.run_laws.specs.lock_steps.Laws.{move_outcome}
use Rattle.run_laws.proofs.lemmas.lock_steps.Stepping.{step_lock}

module _ (k : Change) (after before : Queries) (a : Agree k after before) where
  next_moved : (n : ℕ) → ((s : State) → Covered k.keep before s → run after n (move_state k before s) ≡ move_outcome k.rho (run before n s)) → (x : Next) → CoveredNext k.keep before x
      → runs.after (move_next k before x) (run after n) ≡ move_outcome k.rho (runs.after x (run before n))
  next_moved n h (went s bytes) c = ap (printed_before bytes) (h s c)
  next_moved n h (over e) c = refl

  pub run_moved : (n : ℕ) (s : State) → Covered k.keep before s → run after n (move_state k before s) ≡ move_outcome k.rho (run before n s)
  unfolding run
  run_moved zero s c = refl
  run_moved (suc n) s c =
      let l : Lock k before (step after (move_state k before s)) (step before s) = step_lock k after before a s c in
      ap (λ (x : Next). runs.after x (run after n)) l.same ∙ next_moved n (run_moved n) (step before s) l.kept
