-- What a trim of files leaves can always be written, also where the file would be too long.
use Rattle.std.specs.Prelude.{◌≡◌, List, Option, Some, None, Bool}
use Rattle.descriptor_file.specs.declared.root.Root.{Root}
use Rattle.il_base.specs.declared.world_model.record.AsmRec.{AsmRec}
use Rattle.rules.specs.declared.link_rules.row_at.RowAt.{RowAt}
use Rattle.rules.specs.link_rules.Linked.{assemblies}
use Rattle.rules.specs.mark_rules.Marking.{Marks}
use Rattle.rules.specs.mark_rules.BadItems.{IsFirstFlaw}
use Rattle.record_writer.specs.CanWrite.{CanWrite}
use Rattle.record_writer.specs.Written.{rows_over}
use Rattle.rules.specs.merge_rules.Numbers.{Kept}
use Rattle.rules.specs.merge_rules.Restricted.{restricted}
use Rattle.merge_laws.specs.merged_owners.Laws.{AreMarked, AreKept}
use Rattle.merge_laws.specs.merged_loads.Laws.{AreOfFiles}
use Rattle.trim_laws.specs.spelled_parts.Laws.{SignaturesName}

-- The record is what is left of files where exactly what is needed from an entry and the elements of descriptors is kept, nothing that
-- is needed has a flaw, and its tables have no more rows than they may.
pub record IsTrimOf (internal : Bool) (inputs : List AsmRec) (entry : Option RowAt) (roots : List Root) (kept : Kept) (left : AsmRec) : Type 0 where
  pub files : AreOfFiles inputs
  pub marked : AreMarked (assemblies inputs) entry roots kept
  pub all : AreKept (assemblies inputs) entry roots kept
  pub good : IsFirstFlaw (assemblies inputs) entry (Marks (assemblies inputs) entry roots) None
  pub is : restricted internal (assemblies inputs) kept ≡ Some left
  pub few : rows_over left ≡ None

abbrev pub OfTrims : (AsmRec → Type 0) → Type 0
OfTrims P = (internal : Bool) (inputs : List AsmRec) (entry : Option RowAt) (roots : List Root) (kept : Kept) (left : AsmRec) → IsTrimOf internal inputs entry roots kept left → P left

abbrev pub SignaturesAreOfTypes : Type 0
SignaturesAreOfTypes = OfTrims SignaturesName

abbrev pub TrimIsSpelled : Type 0
TrimIsSpelled = OfTrims CanWrite
