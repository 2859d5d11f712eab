-- What a trim leaves of files is a merge of records that link.
use Rattle.std.specs.Prelude.{◌≡◌, ◌<◌, ℕ, List, length, Some, None, Bool}
use Rattle.il_base.specs.declared.world_model.record.AsmRec.{AsmRec}
use Rattle.rules.specs.record_format.Record.{HasRecord}
use Rattle.rules.specs.link_rules.Linked.{assemblies, link_fault_of}
use Rattle.rules.specs.record_layout.Limits.{limit_of}
use Rattle.rules.specs.merge_rules.Numbers.{Kept}
use Rattle.rules.specs.merge_rules.Restricted.{restricted}
use Rattle.merge_laws.specs.merged_loads.Laws.{AreOfFiles}
use Rattle.rules.specs.merged_world_rules.Merge.{HasFewRows, Merge, IsMerge}

-- the tables of a file are few enough for tokens (II.22)
abbrev pub FilesAreFew : Type 0
FilesAreFew = (bs : List ℕ) (rec : AsmRec) → HasRecord bs rec → HasFewRows rec

abbrev pub merge_of : Bool → List AsmRec → Kept → AsmRec → Merge
merge_of internal inputs kept left = record { inputs = inputs; internal = internal; kept = kept; left = left }

-- where what is left passes no limit
abbrev pub FilesMerge : Type 0
FilesMerge =
    (internal : Bool) (inputs : List AsmRec) (kept : Kept) (left : AsmRec) → 0 < length inputs → AreOfFiles inputs → link_fault_of inputs ≡ None → restricted internal (assemblies inputs) kept ≡ Some left → limit_of left ≡ None
    → IsMerge (merge_of internal inputs kept left)
