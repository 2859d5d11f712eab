-- What the output of a merge refers to has its rows (II.22.25, II.22.38).
use Rattle.std.specs.Prelude.{◌≡◌, List, length, Some, Bool}
use Rattle.il_base.specs.declared.world_model.record.AsmRec.{AsmRec}
use Rattle.rules.specs.link_rules.Linked.{assemblies}
use Rattle.rules.specs.merge_rules.Numbers.{Kept}
use Rattle.rules.specs.merge_rules.Refs.{type_refs, member_refs}
use Rattle.rules.specs.merge_rules.Restricted.{output_of, restricted}
use Rattle.merge_laws.specs.merged_record.Laws.{InputsAreRecords}
use Rattle.rules.specs.merged_world_rules.Merge.{Merge, IsMerge}
use Rattle.merge_laws.specs.merged_references.Written.{HasReferenceRows}

-- Each member that the output refers to has one row: `members` of ReferencesStand (merge_laws/specs/merged_record/Laws).
abbrev pub MembersStand : Type 0
MembersStand =
    (internal : Bool) (recs : List AsmRec) (kept : Kept) (left : AsmRec) → restricted internal recs kept ≡ Some left → InputsAreRecords recs → length left.member_ref ≡ length (member_refs (output_of recs kept).mets)

-- So has each type, with the core library after the inputs: `types` of ReferencesStand.
abbrev pub TypesStand : Type 0
TypesStand =
    (internal : Bool) (inputs : List AsmRec) (kept : Kept) (left : AsmRec) → restricted internal (assemblies inputs) kept ≡ Some left → InputsAreRecords (assemblies inputs)
    → length left.type_ref ≡ length (type_refs (output_of (assemblies inputs) kept).recs (output_of (assemblies inputs) kept).mets)

-- So what the laws on the world of the output alone ask of references (merge_laws/specs/merged_references/Written) holds of each merge.
abbrev pub ReferenceRowsStand : Type 0
ReferenceRowsStand = (m : Merge) → IsMerge m → HasReferenceRows m
