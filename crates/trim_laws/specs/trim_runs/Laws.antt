-- What a merge leaves runs as its inputs do, where exactly what is marked is kept.
use Rattle.std.specs.Prelude.{◌≡◌, ℕ, List, [], ◌∷◌, Option, None, Bool, IsTrue}
use Rattle.std.specs.Option.{option_map}
use Rattle.descriptor_file.specs.declared.root.Root.{Root}
use Rattle.rules.specs.declared.link_rules.row_at.RowAt.{RowAt}
use Rattle.rules.specs.link_rules.Linked.{link_fault_of}
use Rattle.rules.specs.step_rules.Run.{run_from}
use Rattle.rules.specs.view_rules.Methods as view
use Rattle.rules.specs.view_rules.Answers.{queries_of}
use Rattle.rules.specs.mark_rules.Facts.{Fact}
use Rattle.rules.specs.mark_rules.Marking.{Marks}
use Rattle.rules.specs.mark_rules.NotYet.{IsFirstNotYet}
use Rattle.rules.specs.change_rules.Change.{Keep}
use Rattle.rules.specs.change_rules.Keeps.{can_call}
use Rattle.rules.specs.change_rules.Answers.{move_method, move_field}
use Rattle.rules.specs.world_change_rules.Places.{keeps_method_row, keeps_field_row}
use Rattle.run_laws.specs.lock_steps.Laws.{move_outcome}
use Rattle.run_laws.specs.closed_laws.Laws.{OnlyMarks}
use Rattle.merge_laws.specs.merged_record.Laws.{ReferencesStand, NamesAll}
use Rattle.rules.specs.merged_world_rules.Merge.{Merge, before, after, output}
use Rattle.rules.specs.merged_world_rules.NewNumbers.{rho_of, places_of}
use Rattle.merge_laws.specs.merged_rows_move.Premises.{ReadsTokens, ReadsImpls, ReadsSignatures}
use Rattle.trim_laws.specs.marked_merge_rules.Merges.{flags_of}
use Rattle.trim_laws.specs.trim_moves.Laws.{keep_by, IsFlagged, NamesApart}

-- What is left links, its references stand, and no column is 0 that has to name a row.
pub record OutputStands (m : Merge) : Type 0 where
  pub references : ReferencesStand (output m) m.left
  pub names : NamesAll m.left
  pub links : link_fault_of (m.left ∷ []) ≡ None

-- What kept rows name in the output is what they named in the inputs, moved.
pub record OutputReads (m : Merge) (k : Keep) : Type 0 where
  pub tokens : ReadsTokens m
  pub impls : ReadsImpls m k
  pub signatures : ReadsSignatures m
  pub methods : (at : RowAt) → IsTrue (keeps_method_row k (before m) at) → view.method_at (after m) ((places_of m).method at) ≡ option_map (move_method (rho_of m)) (view.method_at (before m) at)
  pub fields : (at : RowAt) → IsTrue (keeps_field_row k (before m) at) → view.field_at (after m) ((places_of m).field at) ≡ option_map (move_field (rho_of m)) (view.field_at (before m) at)

-- marking follows what each marked method names
abbrev pub IsFollowed : Merge → Option RowAt → List Root → Type 0
IsFollowed m entry roots = IsFirstNotYet (before m) (Marks (before m) entry roots) None

-- From each kept method that can be called, for any input and any number of steps, the output's run is the inputs', with new numbers.
abbrev pub RunsAlike : Merge → Keep → Type 0
RunsAlike m k =
    (i : ℕ) → IsTrue (can_call k i) → (bytes : List ℕ) (n : ℕ) → run_from (queries_of (after m)) ((rho_of m).method i) bytes n ≡ move_outcome (rho_of m) (run_from (queries_of (before m)) i bytes n)

abbrev pub TrimsRun : Type 0
TrimsRun =
    (m : Merge) (entry : Option RowAt) (roots : List Root) (holds : Fact → Bool) → IsFlagged m entry roots holds → OnlyMarks (before m) entry roots (flags_of m holds) → IsFollowed m entry roots → NamesApart m entry roots
    → OutputStands m → OutputReads m (keep_by m holds) → RunsAlike m (keep_by m holds)
