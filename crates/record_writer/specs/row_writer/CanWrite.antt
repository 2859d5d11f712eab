-- Which records have rows that can be written: each signature that has a reading has a spelling (II.23.2).
use Rattle.std.specs.Prelude.{ℕ, List, All}
use Rattle.il_base.specs.blob_grammar.Laws.{IsSpelled}
use Rattle.il_base.specs.blob_grammar.Signatures.{levels, IsType, IsMethod, IsProperty, IsField, AreLocals, IsInstance}
use Rattle.il_base.specs.declared.world_model.known.Known.{Known}
use Rattle.il_base.specs.declared.world_model.known.Known.TheVariants.{Good, Bad}
use Rattle.il_base.specs.declared.world_model.expr.MemberSig.{MemberSig}
use Rattle.il_base.specs.declared.world_model.expr.MemberSig.TheVariants as member
use Rattle.il_base.specs.declared.world_model.record.AsmRec.{AsmRec}

-- it has no reading, or a spelling
abbrev pub HasSpelling : {A : Type 0} → (A → List ℕ → Type 0) → Known A → Type 0
HasSpelling grammar (Good x) = IsSpelled grammar x
HasSpelling grammar (Bad why) = Unit {0}

abbrev pub HasMemberSpelling : Known MemberSig → Type 0
HasMemberSpelling (Good (member.Method s)) = IsSpelled IsMethod s
HasMemberSpelling (Good (member.Field s)) = IsSpelled IsField s
HasMemberSpelling (Bad why) = Unit {0}

pub record CanWriteRows (rec : AsmRec) : Type 0 where
  pub fields : All (λ row. HasSpelling IsField row.signature) rec.field
  pub methods : All (λ row. HasSpelling IsMethod row.signature) rec.method_def
  pub members : All (λ row. HasMemberSpelling row.signature) rec.member_ref
  pub locals : All (λ row. HasSpelling AreLocals row.signature) rec.stand_alone_sig
  pub properties : All (λ row. HasSpelling IsProperty row.signature) rec.property
  pub types : All (λ row. HasSpelling (IsType levels) row.signature) rec.type_spec
  pub instances : All (λ row. HasSpelling IsInstance row.instantiation) rec.method_spec
