-- The entry method of what a merge leaves is that of its inputs, moved (II.25.3.3.2).
use Rattle.std.specs.Prelude.{◌≡◌, ◌<◌, ℕ, List, length, Option, Some, slice_get, unwrap_or, Bool}
use Rattle.il_base.specs.declared.table.TheConstants.{METHOD_DEF}
use Rattle.descriptor_file.specs.declared.root.Root.{Root}
use Rattle.il_base.specs.declared.world_model.record.AsmRec.{AsmRec}
use Rattle.il_base.specs.world_model.Tokens.{index_in}
use Rattle.rules.specs.declared.link_rules.row_at.RowAt.{RowAt}
use Rattle.rules.specs.link_rules.Types.{at_row}
use Rattle.rules.specs.step_rules.Run.{run_from}
use Rattle.rules.specs.view_rules.Answers.{queries_of}
use Rattle.rules.specs.mark_rules.Facts.{Fact}
use Rattle.run_laws.specs.lock_steps.Laws.{move_outcome}
use Rattle.run_laws.specs.closed_laws.Laws.{OnlyMarks}
use Rattle.rules.specs.merged_world_rules.Merge.{Merge, before, after}
use Rattle.rules.specs.merged_world_rules.NewNumbers.{rho_of}
use Rattle.trim_laws.specs.marked_merge_rules.Merges.{IsMarkedMerge, flags_of}
use Rattle.trim_laws.specs.trim_moves.Laws.{keep_by, IsFlagged, NamesApart}
use Rattle.trim_laws.specs.trim_runs.Laws.{IsFollowed, OutputStands, OutputReads}

-- The entry method is a row of the first input, whose methods come first in the world.
pub record IsEntry (m : Merge) (entry : Option RowAt) (k : ℕ) : Type 0 where
  pub first : AsmRec
  pub there : slice_get m.inputs 0 ≡ Some first
  pub names : index_in METHOD_DEF first.entry ≡ Some k
  pub below : k < length first.method_def
  pub is : entry ≡ Some (at_row 0 k)

-- The output's entry token names it under its new number, a method of the output.
abbrev pub EntryMoves : Type 0
EntryMoves =
    (m : Merge) (entry : Option RowAt) (roots : List Root) (k : ℕ) → IsMarkedMerge m entry roots → IsEntry m entry k
    → (index_in METHOD_DEF m.left.entry ≡ Some ((rho_of m).method k)) × (rho_of m).method k < length m.left.method_def

-- the method that a program begins with, as run_rules/specs/Runs has it
abbrev pub entry_number : AsmRec → ℕ
entry_number rec = unwrap_or (index_in METHOD_DEF rec.entry) 0

-- So the output's program runs as that of the inputs, for any input and any number of steps.
abbrev pub ProgramsRun : Type 0
ProgramsRun =
    (m : Merge) (entry : Option RowAt) (roots : List Root) (holds : Fact → Bool) (k : ℕ) → IsFlagged m entry roots holds → OnlyMarks (before m) entry roots (flags_of m holds) → IsFollowed m entry roots → NamesApart m entry roots
    → OutputStands m → OutputReads m (keep_by m holds) → IsEntry m entry k → (bytes : List ℕ) (n : ℕ)
    → run_from (queries_of (after m)) (entry_number m.left) bytes n ≡ move_outcome (rho_of m) (run_from (queries_of (before m)) k bytes n)
