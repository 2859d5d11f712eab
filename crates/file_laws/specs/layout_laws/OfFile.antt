-- What a record that a file has lacks for it to be laid out: that nothing in it is without a meaning, and that its addresses, texts
-- and descriptor are as the layout has them.
use Rattle.std.specs.Prelude.{◌≡◌, map, Option, Some, None}
use Rattle.il_base.specs.declared.body.Body.{Body}
use Rattle.il_base.specs.declared.world_model.known.Known.{Known}
use Rattle.il_base.specs.declared.world_model.record.AsmRec.{AsmRec}
use Rattle.il_base.specs.world_model.Records.{Each}
use Rattle.rules.specs.record_layout.Tables.{method_rvas, field_rvas}
use Rattle.file_laws.specs.layout_laws.Parts.{IsGood, DataFits, TextsFit}

-- it has a meaning
abbrev pub IsKnown : {A : Type 0} → Known A → Type 0
IsKnown known = IsGood (λ x. Unit {0}) known

-- no body, or one with a meaning
abbrev pub HasReading : Option (Known Body) → Type 0
HasReading None = Unit {0}
HasReading (Some body) = IsKnown body

pub record AllKnown (rec : AsmRec) : Type 0 where
  pub fields : Each (λ row. IsKnown row.signature) rec.field
  pub methods : Each (λ row. IsKnown row.signature) rec.method_def
  pub members : Each (λ row. IsKnown row.signature) rec.member_ref
  pub locals : Each (λ row. IsKnown row.signature) rec.stand_alone_sig
  pub properties : Each (λ row. IsKnown row.signature) rec.property
  pub types : Each (λ row. IsKnown row.signature) rec.type_spec
  pub instances : Each (λ row. IsKnown row.instantiation) rec.method_spec
  pub bodies : Each (λ row. HasReading row.body) rec.method_def

pub record AsLaid (rec : AsmRec) : Type 0 where
  pub known : AllKnown rec
  pub descriptor : rec.descriptor ≡ None
  pub field_data : Each (DataFits rec) rec.field_rva
  pub body_rvas : map (λ m. m.rva) rec.method_def ≡ method_rvas rec
  pub data_rvas : map (λ f. f.rva) rec.field_rva ≡ field_rvas rec
  pub texts : TextsFit rec
