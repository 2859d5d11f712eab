-- Which records can be laid out: those that are the record of the file that they are laid out in, where it passes no limit.
use Rattle.std.specs.Prelude.{◌≡◌, ℕ, ◌<◌, ◌≤◌, ◌^◌, bit_and, [], length, map, get_or, None}
use Rattle.il_base.specs.declared.world_model.record.AsmRec.{AsmRec}
use Rattle.il_base.specs.world_model.Records.{Each, IsRecord}
use Rattle.rules.specs.record_layout.Tables.{values_of, method_rvas, field_rvas}
use Rattle.file_laws.specs.layout_laws.Columns.{TableFits}
use Rattle.file_laws.specs.layout_laws.Parts.{SignaturesFit, MethodFits, DataFits, TextsFit}

-- the CLI header (II.25.3.3) and the subsystem (II.25.2.3.2)
pub record HeaderFits (rec : AsmRec) : Type 0 where
  pub bits : rec.bits < 2 ^ 32
  -- ILONLY and not NATIVE_ENTRYPOINT
  pub il_only : bit_and rec.bits 1 ≡ 1
  pub not_native : bit_and rec.bits 16 ≡ 0
  pub entry : rec.entry < 2 ^ 32
  pub subsystem : rec.subsystem < 2 ^ 16
  -- the file has no resources
  pub descriptor : rec.descriptor ≡ None

pub record CanBeLaid (rec : AsmRec) : Type 0 where
  pub header : HeaderFits rec
  pub one_module : length rec.«module» ≡ 1
  pub one_assembly : length rec.assembly ≡ 1
  pub some_type : 1 ≤ length rec.type_def
  -- tokens name rows, runs follow one another, sorted tables are in order (II.22)
  pub is_record : IsRecord rec
  pub tables : (t : ℕ) → TableFits t (get_or (values_of rec) t [])
  pub signatures : SignaturesFit rec
  pub methods : Each MethodFits rec.method_def
  pub field_data : Each (DataFits rec) rec.field_rva
  -- bodies and bytes of fields are where the layout has them
  pub body_rvas : map (λ m. m.rva) rec.method_def ≡ method_rvas rec
  pub data_rvas : map (λ f. f.rva) rec.field_rva ≡ field_rvas rec
  pub texts : TextsFit rec
