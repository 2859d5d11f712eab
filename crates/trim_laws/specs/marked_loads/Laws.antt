-- What a trim leaves of files loads: the file that it is laid out in has that record.
use Rattle.std.specs.Prelude.{◌≡◌, ◌<◌, ◌≤◌, suc, List, length, Option, Some, None, Bool, slice_get}
use Rattle.descriptor_file.specs.declared.root.Root.{Root}
use Rattle.il_base.specs.declared.world_model.record.AsmRec.{AsmRec}
use Rattle.rules.specs.record_format.Record.{HasRecord}
use Rattle.rules.specs.declared.link_rules.row_at.RowAt.{RowAt}
use Rattle.rules.specs.link_rules.Linked.{assemblies}
use Rattle.rules.specs.mark_rules.Marking.{Marks}
use Rattle.rules.specs.mark_rules.BadItems.{IsFirstFlaw}
use Rattle.rules.specs.record_layout.Laid.{laid}
use Rattle.rules.specs.record_layout.Limits.{limit_of}
use Rattle.record_writer.specs.CanWrite.{CanWrite}
use Rattle.rules.specs.merge_rules.Numbers.{Kept}
use Rattle.rules.specs.merge_rules.Restricted.{output_of, restricted}
use Rattle.merge_laws.specs.merged_record.Laws.{InputsAreRecords, ReferencesStand, NamesAll}
use Rattle.merge_laws.specs.merged_owners.Laws.{AreMarked, AreKept}
use Rattle.merge_laws.specs.merged_loads.Laws.{AreOfFiles}

-- The record is what is left of files where exactly what is needed from an entry and the elements of descriptors is kept, nothing
-- that is needed has a flaw, and the file of what is left passes no limit.
pub record IsTrim (internal : Bool) (inputs : List AsmRec) (entry : Option RowAt) (roots : List Root) (kept : Kept) (left : AsmRec) : Type 0 where
  pub some_input : 0 < length inputs
  pub files : AreOfFiles inputs
  pub marked : AreMarked (assemblies inputs) entry roots kept
  pub all : AreKept (assemblies inputs) entry roots kept
  pub good : IsFirstFlaw (assemblies inputs) entry (Marks (assemblies inputs) entry roots) None
  pub is : restricted internal (assemblies inputs) kept ≡ Some left
  pub some_type : 1 ≤ length left.type_def
  pub can : CanWrite left
  pub within : limit_of left ≡ None

-- It loads, where all that it refers to has its rows, and no column is 0 that has to name a row.
abbrev pub TrimLoads : Type 0
TrimLoads =
    (internal : Bool) (inputs : List AsmRec) (entry : Option RowAt) (roots : List Root) (kept : Kept) (left : AsmRec) → IsTrim internal inputs entry roots kept left
    → ReferencesStand (output_of (assemblies inputs) kept) left → NamesAll left → HasRecord (laid left) left

-- The type of the entry method is left, where that is a method of an input.
abbrev pub EntryTypeIsLeft : Type 0
EntryTypeIsLeft =
    (internal : Bool) (recs : List AsmRec) (at : RowAt) (roots : List Root) (kept : Kept) (left rec : AsmRec) → restricted internal recs kept ≡ Some left → InputsAreRecords recs → AreMarked recs (Some at) roots kept
    → AreKept recs (Some at) roots kept → IsFirstFlaw recs (Some at) (Marks recs (Some at) roots) None → suc at.asm < length recs → slice_get recs at.asm ≡ Some rec → at.row < length rec.method_def → 1 ≤ length left.type_def
