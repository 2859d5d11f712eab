-- What a merge leaves of the records of files can be laid out, and the file that it is laid out in has that record.
use Rattle.std.specs.Prelude.{◌≡◌, ◌<◌, ◌≤◌, ℕ, List, length, slice_get, Some, None, Bool, true, Contains}
use Rattle.il_base.specs.declared.sig.Sig.TheVariants.{Named}
use Rattle.il_base.specs.declared.table.TheConstants.{TYPE_DEF}
use Rattle.il_base.specs.blob_grammar.Laws.{AreBytes}
use Rattle.il_base.specs.declared.world_model.known.Known.TheVariants.{Good}
use Rattle.il_base.specs.declared.world_model.members.FieldRow.{FieldRow}
use Rattle.il_base.specs.declared.world_model.record.AsmRec.{AsmRec}
use Rattle.il_base.specs.world_model.Tokens.{index_in}
use Rattle.il_base.specs.world_model.Records.{Each, IsRecord}
use Rattle.rules.specs.record_format.Record.{HasRecord}
use Rattle.rules.specs.declared.link_rules.row_at.RowAt.{RowAt}
use Rattle.rules.specs.link_rules.Types.{at_row}
use Rattle.rules.specs.link_rules.Linked.{assemblies}
use Rattle.rules.specs.mark_rules.Places.{type_item}
use Rattle.rules.specs.record_layout.Laid.{laid}
use Rattle.rules.specs.record_layout.Limits.{limit_of}
use Rattle.record_writer.specs.CanWrite.{CanWrite}
use Rattle.file_laws.specs.layout_laws.Parts.{DataFits}
use Rattle.file_laws.specs.layout_laws.OfFile.{IsKnown, HasReading}
use Rattle.file_laws.specs.layout_laws.CanBeLaid.{CanBeLaid}
use Rattle.rules.specs.merge_rules.Numbers.{Kept, kept_fields}
use Rattle.rules.specs.merge_rules.Restricted.{output_of, restricted}
use Rattle.merge_laws.specs.merged_record.Laws.{OwnersAreKept, ReferencesStand, NamesAll}

-- ---- the inputs

-- a record that a file has
pub record IsOfFile (rec : AsmRec) : Type 0 where
  pub file : List ℕ
  pub bytes : AreBytes file
  pub has : HasRecord file rec

abbrev pub AreOfFiles : List AsmRec → Type 0
AreOfFiles inputs = (a : ℕ) (rec : AsmRec) → slice_get inputs a ≡ Some rec → IsOfFile rec

-- ---- what is left

-- Signatures and bodies of kept rows have a reading, and each field's bytes are as many as its type has. Those of reference rows
-- have one.
pub record PartsStand (left : AsmRec) : Type 0 where
  pub fields : Each (λ row. IsKnown row.signature) left.field
  pub methods : Each (λ row. IsKnown row.signature) left.method_def
  pub properties : Each (λ row. IsKnown row.signature) left.property
  pub bodies : Each (λ row. HasReading row.body) left.method_def
  pub field_data : Each (DataFits left) left.field_rva

-- what is asked of the record that is left of inputs
pub record IsLeft (internal : Bool) (inputs : List AsmRec) (kept : Kept) (left : AsmRec) : Type 0 where
  pub is : restricted internal (assemblies inputs) kept ≡ Some left
  pub some_input : 0 < length inputs
  pub files : AreOfFiles inputs
  pub some_type : 1 ≤ length left.type_def
  pub parts : PartsStand left
  -- each signature and body has a spelling
  pub can : CanWrite left
  -- no limit of a file that is written is passed
  pub within : limit_of left ≡ None

-- the type of a kept field is kept, where it is one of the field's own file
abbrev pub FieldTypesAreKept : List AsmRec → Kept → Type 0
FieldTypesAreKept recs kept =
    (at : RowAt) (rec : AsmRec) (f : FieldRow) (value : Bool) (token j : ℕ) → Contains (kept_fields recs kept) at → slice_get recs at.asm ≡ Some rec → slice_get rec.field at.row ≡ Some f
    → f.signature ≡ Good (Named value token) → index_in TYPE_DEF token ≡ Some j → kept (type_item recs (at_row at.asm j)) ≡ true

-- ---- the laws

abbrev pub LeftCanBeLaid : Type 0
LeftCanBeLaid = (internal : Bool) (inputs : List AsmRec) (kept : Kept) (left : AsmRec) → IsLeft internal inputs kept left → IsRecord left → CanBeLaid left

abbrev pub LeftLoads : Type 0
LeftLoads =
    (internal : Bool) (inputs : List AsmRec) (kept : Kept) (left : AsmRec) → IsLeft internal inputs kept left → OwnersAreKept (assemblies inputs) kept
    → ReferencesStand (output_of (assemblies inputs) kept) left → NamesAll left → HasRecord (laid left) left

abbrev pub FieldDataStays : Type 0
FieldDataStays =
    (internal : Bool) (inputs : List AsmRec) (kept : Kept) (left : AsmRec) → restricted internal (assemblies inputs) kept ≡ Some left → AreOfFiles inputs → limit_of left ≡ None → FieldTypesAreKept (assemblies inputs) kept
    → Each (λ row. IsKnown row.bytes) left.field_rva → Each (DataFits left) left.field_rva
