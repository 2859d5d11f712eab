-- Each MemberRef row of what a merge leaves names the type in which its member is found (II.22.25), so each column names a row that has
-- to name one.
use Rattle.std.specs.Prelude.{◌≤◌, List, Option}
use Rattle.descriptor_file.specs.declared.root.Root.{Root}
use Rattle.il_base.specs.declared.world_model.members.MemberRefRow.{MemberRefRow}
use Rattle.il_base.specs.world_model.Records.{Each}
use Rattle.rules.specs.declared.link_rules.row_at.RowAt.{RowAt}
use Rattle.merge_laws.specs.merged_record.Laws.{ReferencesStand, NamesAll}
use Rattle.rules.specs.merged_world_rules.Merge.{Merge, IsMerge, output}
use Rattle.trim_laws.specs.marked_merge_rules.Merges.{IsMarkedMerge}
use Rattle.trim_laws.specs.marked_merge_rules.Reads.{KeepsAllMet}

-- where types of inputs that the output refers to are kept, whatever else is
abbrev pub ParentsNamed : Type 0
ParentsNamed = (m : Merge) → IsMerge m → KeepsAllMet m → ReferencesStand (output m) m.left → Each (λ (row : MemberRefRow). 1 ≤ row.class) m.left.member_ref

abbrev pub AllNamed : Type 0
AllNamed = (m : Merge) (entry : Option RowAt) (roots : List Root) → IsMarkedMerge m entry roots → KeepsAllMet m → ReferencesStand (output m) m.left → NamesAll m.left
