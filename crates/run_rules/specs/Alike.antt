-- When two runs are the same, where the methods of one world have new numbers in another.
use Rattle.std.specs.Prelude.{◌≡◌, ℕ, List}
use Rattle.il_base.specs.declared.ids.Place.{Place}
use Rattle.il_base.specs.declared.world_model.record.AsmRec.{AsmRec}
use Rattle.run_rules.specs.declared.answers.EndKind.{EndKind}
use Rattle.run_rules.specs.declared.answers.EndKind.TheVariants.{Ended, Threw, Spent, Stopped, Stuck}
use Rattle.run_rules.specs.Runs.{FileRun, place_at}

-- the same offset of the same method
pub record SamePlace (number : ℕ → ℕ) (after before : List AsmRec) (p q : Place) : Type 0 where
  pub method : ℕ
  pub offset : ℕ
  pub new : p ≡ place_at after (number method) offset
  pub old : q ≡ place_at before method offset

-- Both ended with one code, threw one kind with one message, stopped or were stuck at one place, or both go on.
abbrev pub SameEnd : (ℕ → ℕ) → List AsmRec → List AsmRec → EndKind → EndKind → Type 0
SameEnd number after before (Ended c) (Ended d) = c ≡ d
SameEnd number after before (Threw kind message) (Threw kind' message') = (kind ≡ kind') × (message ≡ message')
SameEnd number after before Spent Spent = Unit {0}
SameEnd number after before (Stopped p) (Stopped q) = SamePlace number after before p q
SameEnd number after before (Stuck p) (Stuck q) = SamePlace number after before p q
SameEnd number after before _ _ = ⊥

-- they printed the same, too
pub record SameRun (number : ℕ → ℕ) (after before : List AsmRec) (new old : FileRun) : Type 0 where
  pub output : new.output ≡ old.output
  pub end : SameEnd number after before new.end old.end
