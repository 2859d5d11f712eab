-- What a trim of files writes loads, links and runs as they do.
use Rattle.std.specs.Prelude.{◌≡◌, ◌<◌, ℕ, List, [], ◌∷◌, length, Option, Some, None, Bool}
use Rattle.il_base.specs.declared.table.TheConstants.{METHOD_DEF}
use Rattle.descriptor_file.specs.declared.root.Root.{Root}
use Rattle.il_base.specs.world_model.Tokens.{index_in}
use Rattle.rules.specs.record_format.Record.{HasRecord}
use Rattle.rules.specs.declared.link_rules.row_at.RowAt.{RowAt}
use Rattle.rules.specs.link_rules.Linked.{link_fault_of}
use Rattle.rules.specs.link_rules.Members.{methods_in}
use Rattle.rules.specs.step_rules.Run.{run_from}
use Rattle.rules.specs.view_rules.Answers.{queries_of}
use Rattle.rules.specs.mark_rules.Facts.{Fact}
use Rattle.rules.specs.record_layout.Laid.{laid}
use Rattle.record_writer.specs.CanWrite.{CanWrite}
use Rattle.run_laws.specs.lock_steps.Laws.{move_outcome}
use Rattle.rules.specs.merge_rules.Numbers.{kept_methods, new_row}
use Rattle.rules.specs.merged_world_rules.Merge.{Merge, before, after}
use Rattle.rules.specs.merged_world_rules.Numbering.{number_at}
use Rattle.rules.specs.merged_world_rules.NewNumbers.{rho_of}
use Rattle.trim_laws.specs.marked_merge_rules.Merges.{IsMarkedMerge, AreFacts}
use Rattle.trim_laws.specs.trim_moves.Laws.{NamesApart}
use Rattle.trim_laws.specs.trim_runs.Laws.{IsFollowed}
use Rattle.trim_laws.specs.trim_runs.Entry.{IsEntry, entry_number}

-- Exactly what is marked from this entry method, by its row in the first input, is kept; marking follows what each marked method names;
-- no two types want one name that can be seen; each signature and body has a spelling.
pub record IsTrimmed (m : Merge) (entry : Option RowAt) (roots : List Root) (holds : Fact → Bool) (k : ℕ) : Type 0 where
  pub merge : IsMarkedMerge m entry roots
  pub facts : AreFacts m entry roots holds
  pub followed : IsFollowed m entry roots
  pub apart : NamesApart m entry roots
  pub begins : IsEntry m entry k
  pub can : CanWrite m.left

pub record Behaves (m : Merge) (k : ℕ) : Type 0 where
  pub loads : HasRecord (laid m.left) m.left
  pub links : link_fault_of (m.left ∷ []) ≡ None
  -- its entry point is a method of it
  pub entry : ℕ
  pub names : index_in METHOD_DEF m.left.entry ≡ Some entry
  pub below : entry < length m.left.method_def
  -- a kept method has its row in the output as its new number
  pub moved : (at : RowAt) (row : ℕ) → new_row (kept_methods (before m) m.kept) at ≡ Some row → (rho_of m).method (number_at methods_in (before m) at) ≡ row
  -- for any input and any number of steps, with new numbers
  pub runs : (bytes : List ℕ) (n : ℕ) → run_from (queries_of (after m)) (entry_number m.left) bytes n ≡ move_outcome (rho_of m) (run_from (queries_of (before m)) k bytes n)

abbrev pub TrimsBehave : Type 0
TrimsBehave = (m : Merge) (entry : Option RowAt) (roots : List Root) (holds : Fact → Bool) (k : ℕ) → IsTrimmed m entry roots holds k → Behaves m k
