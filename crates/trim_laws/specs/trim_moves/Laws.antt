-- What the rows of a merge that keeps exactly what is marked have: flags that say what is kept, bases and interfaces with a
-- reading, and names that stay where they can be seen.
use Rattle.std.specs.Prelude.{◌≡◌, ◌↔◌, List, [], ◌∷◌, Option, None, Bool, IsTrue}
use Rattle.il_base.specs.declared.ids.TypeId.{TypeId}
use Rattle.descriptor_file.specs.declared.root.Root.{Root}
use Rattle.il_base.specs.world_model.Records.{IsRecord}
use Rattle.rules.specs.declared.link_rules.row_at.RowAt.{RowAt}
use Rattle.rules.specs.link_rules.Linked.{link_fault_of}
use Rattle.rules.specs.mark_rules.Facts.{Fact}
use Rattle.rules.specs.mark_rules.Facts.Fact.{shown}
use Rattle.rules.specs.mark_rules.Marking.{Marks}
use Rattle.mark_numbers.specs.Numbers.{is_there}
use Rattle.rules.specs.merge_rules.Numbers.{kept_types}
use Rattle.rules.specs.merge_rules.Names.{collision}
use Rattle.rules.specs.change_rules.Change.{Keep}
use Rattle.run_laws.specs.marked_laws.Flags.{HasMarks, keep_of, kept_of}
use Rattle.merge_laws.specs.merged_record.Laws.{ReferencesStand, NamesAll}
use Rattle.rules.specs.merged_world_rules.Merge.{Merge, before, output}
use Rattle.rules.specs.merged_world_rules.Kept.{HasFlags}
use Rattle.merge_laws.specs.merged_rows_move.Premises.{HasGoodBases, HasGoodInterfaces, KeepsNames}
use Rattle.trim_laws.specs.marked_merge_rules.Merges.{IsMarkedMerge, AreFacts, flags_of}

-- ---- the flags by which the worlds are compared

abbrev pub keep_by : Merge → (Fact → Bool) → Keep
keep_by m holds = keep_of (before m) (flags_of m holds)

abbrev pub kept_by : Merge → (Fact → Bool) → RowAt → Bool
kept_by m holds = kept_of (before m) (flags_of m holds)

-- a merge with flags that are exact for facts that are there, and follow the rules of marking
pub record IsFlagged (m : Merge) (entry : Option RowAt) (roots : List Root) (holds : Fact → Bool) : Type 0 where
  pub merge : IsMarkedMerge m entry roots
  pub facts : AreFacts m entry roots holds
  pub marks : HasMarks (before m) entry roots (flags_of m holds)

abbrev pub ForFlagged : ((m : Merge) (entry : Option RowAt) (roots : List Root) (holds : Fact → Bool) → Type 0) → Type 0
ForFlagged P = (m : Merge) (entry : Option RowAt) (roots : List Root) (holds : Fact → Bool) → IsFlagged m entry roots holds → P m entry roots holds

-- ---- names

-- No two kept types want one name that can be seen (`IsCollision` of program_trim/specs/Trim).
pub record NamesApart (m : Merge) (entry : Option RowAt) (roots : List Root) : Type 0 where
  pub seen : TypeId → Bool
  pub exact : (t : TypeId) → IsTrue (is_there (before m) (shown t)) → IsTrue (seen t) ↔ Marks (before m) entry roots (shown t)
  pub none : collision (before m) seen (kept_types (before m) m.kept) ≡ None

-- ---- the laws

abbrev pub FlagsSay : Type 0
FlagsSay = ForFlagged (λ m entry roots holds. HasFlags m (keep_by m holds) (kept_by m holds))

abbrev pub BasesAreGood : Type 0
BasesAreGood = (m : Merge) (entry : Option RowAt) (roots : List Root) → IsMarkedMerge m entry roots → HasGoodBases m

abbrev pub InterfacesAreGood : Type 0
InterfacesAreGood = ForFlagged (λ m entry roots holds. HasGoodInterfaces m (keep_by m holds))

-- What is left is a record, where its references stand and no column is 0 that has to name a row.
abbrev pub LeftIsRecord : Type 0
LeftIsRecord = (m : Merge) (entry : Option RowAt) (roots : List Root) → IsMarkedMerge m entry roots → ReferencesStand (output m) m.left → NamesAll m.left → IsRecord m.left

-- Types that can be seen keep their names, where what is left is a record that links.
abbrev pub NamesStay : Type 0
NamesStay = ForFlagged (λ m entry roots holds. NamesApart m entry roots → IsRecord m.left → link_fault_of (m.left ∷ []) ≡ None → KeepsNames m (keep_by m holds))
