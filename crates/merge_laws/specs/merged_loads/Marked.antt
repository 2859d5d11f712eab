-- Where what is kept is needed, and nothing that is needed has a flaw, the parts of kept rows have a meaning in what is left.
use Rattle.std.specs.Prelude.{◌≡◌, ◌<◌, ◌≤◌, List, length, Option, Some, None, slice_get, Bool, true}
use Rattle.std.specs.Option.{is_some}
use Rattle.il_base.specs.declared.ids.Item.{Item}
use Rattle.descriptor_file.specs.declared.root.Root.{Root}
use Rattle.il_base.specs.declared.world_model.types.TypeDefRow.{TypeDefRow}
use Rattle.il_base.specs.declared.world_model.record.AsmRec.{AsmRec}
use Rattle.il_base.specs.world_model.Records.{Each}
use Rattle.rules.specs.declared.link_rules.row_at.RowAt.{RowAt}
use Rattle.file_laws.specs.layout_laws.OfFile.{IsKnown, HasReading}
use Rattle.rules.specs.mark_rules.Facts.Fact.{marked}
use Rattle.rules.specs.mark_rules.Marking.{Marks}
use Rattle.rules.specs.mark_rules.BadItems.{IsFirstFlaw}
use Rattle.rules.specs.mark_rules.Places.{row_of}
use Rattle.rules.specs.merge_rules.Numbers.{Kept}
use Rattle.rules.specs.merge_rules.Restricted.{restricted}
use Rattle.merge_laws.specs.merged_record.Laws.{InputsAreRecords}
use Rattle.merge_laws.specs.merged_loads.Laws.{FieldTypesAreKept}

-- each kept item is needed from an entry and the elements of descriptors
abbrev pub AreMarked : List AsmRec → Option RowAt → List Root → Kept → Type 0
AreMarked recs entry roots kept = (i : Item) → kept i ≡ true → Marks recs entry roots (marked i)

-- each item of the world that is needed is kept
abbrev pub AreKept : List AsmRec → Option RowAt → List Root → Kept → Type 0
AreKept recs entry roots kept = (i : Item) → is_some (row_of recs i) ≡ true → Marks recs entry roots (marked i) → kept i ≡ true

-- the signatures and bodies of kept rows have a reading, and the bytes of kept fields a meaning
pub record AreRead (left : AsmRec) : Type 0 where
  pub fields : Each (λ row. IsKnown row.signature) left.field
  pub methods : Each (λ row. IsKnown row.signature) left.method_def
  pub properties : Each (λ row. IsKnown row.signature) left.property
  pub bodies : Each (λ row. HasReading row.body) left.method_def
  pub field_data : Each (λ row. IsKnown row.bytes) left.field_rva

abbrev pub PartsAreRead : Type 0
PartsAreRead =
    (internal : Bool) (recs : List AsmRec) (entry : Option RowAt) (roots : List Root) (kept : Kept) (left : AsmRec) → restricted internal recs kept ≡ Some left → InputsAreRecords recs → AreMarked recs entry roots kept
    → IsFirstFlaw recs entry (Marks recs entry roots) None → AreRead left

abbrev pub FieldTypesKept : Type 0
FieldTypesKept =
    (recs : List AsmRec) (entry : Option RowAt) (roots : List Root) (kept : Kept) → InputsAreRecords recs → AreMarked recs entry roots kept → AreKept recs entry roots kept
    → IsFirstFlaw recs entry (Marks recs entry roots) None → FieldTypesAreKept recs kept

-- the first type of the first input is always needed (II.22.37)
abbrev pub ModuleStays : Type 0
ModuleStays =
    (internal : Bool) (recs : List AsmRec) (entry : Option RowAt) (roots : List Root) (kept : Kept) (left : AsmRec) → restricted internal recs kept ≡ Some left → 1 < length recs → AreKept recs entry roots kept
    → (first : AsmRec) (row : TypeDefRow) → slice_get recs 0 ≡ Some first → slice_get first.type_def 0 ≡ Some row → 1 ≤ length left.type_def
