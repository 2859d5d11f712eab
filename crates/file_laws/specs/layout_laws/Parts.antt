-- What the parts of rows that are no plain values have: signatures and bodies with a spelling, bytes of fields as many as their
-- types have, the texts of `ldstr` at their places.
use Rattle.std.specs.Prelude.{◌≡◌, ℕ, ◌<◌, ◌^◌, length, slice_get, Option, Some, None, IsTrue}
use Rattle.std.specs.List.{AllByRecursion}
use Rattle.il_base.specs.declared.body.Body.{Body}
use Rattle.il_base.specs.blob_grammar.Signatures.{levels}
use Rattle.il_base.specs.blob_grammar.Values.{FitsType, FitsMethod, FitsProperty, FitRow}
use Rattle.il_base.specs.body_grammar.BodySpelling.{HasSpelling}
use Rattle.il_base.specs.declared.world_model.known.Known.{Known}
use Rattle.il_base.specs.declared.world_model.known.Known.TheVariants.{Good, Bad}
use Rattle.il_base.specs.declared.world_model.expr.MemberSig.{MemberSig}
use Rattle.il_base.specs.declared.world_model.expr.MemberSig.TheVariants as member
use Rattle.il_base.specs.declared.world_model.members.MethodDefRow.{MethodDefRow}
use Rattle.il_base.specs.declared.world_model.extras.FieldRvaRow.{FieldRvaRow}
use Rattle.il_base.specs.declared.world_model.record.AsmRec.{AsmRec}
use Rattle.il_base.specs.declared.world_model.record.UserText.{UserText}
use Rattle.il_base.specs.world_model.Records.{Each}
use Rattle.rules.specs.record_format.Parts.{size_by}
use Rattle.rules.specs.record_format.Texts.{is_loaded, user_token}
use Rattle.rules.specs.file_layout.Heaps.{user_place}
use Rattle.rules.specs.record_layout.Laid.{users_of}

-- it has a meaning, which is so
abbrev pub IsGood : {A : Type 0} → (A → Type 0) → Known A → Type 0
IsGood P (Good x) = P x
IsGood P (Bad why) = ⊥

-- ---- signatures (II.23.2)

abbrev pub FitsMember : MemberSig → Type 0
FitsMember (member.Method s) = FitsMethod s
FitsMember (member.Field s) = FitsType levels s

pub record SignaturesFit (rec : AsmRec) : Type 0 where
  pub fields : Each (λ row. IsGood (FitsType levels) row.signature) rec.field
  pub methods : Each (λ row. IsGood FitsMethod row.signature) rec.method_def
  pub members : Each (λ row. IsGood FitsMember row.signature) rec.member_ref
  pub locals : Each (λ row. IsGood FitRow row.signature) rec.stand_alone_sig
  pub properties : Each (λ row. IsGood FitsProperty row.signature) rec.property
  pub types : Each (λ row. IsGood (FitsType levels) row.signature) rec.type_spec
  pub instances : Each (λ row. IsGood FitRow row.instantiation) rec.method_spec

-- ---- bodies and the bytes of fields

-- no body, or one with a spelling; neither has a fault
abbrev pub FitsBody : Option (Known Body) → Type 0
FitsBody None = Unit {0}
FitsBody (Some body) = IsGood HasSpelling body

pub record MethodFits (row : MethodDefRow) : Type 0 where
  pub body : FitsBody row.body
  pub sound : row.bad_at ≡ 0

-- as many bytes as the field's type has (II.22.18)
abbrev pub DataFits : AsmRec → FieldRvaRow → Type 0
DataFits rec row = IsGood (λ bytes. size_by rec.class_layout rec.field row.field ≡ Some (length bytes)) row.bytes

-- ---- the texts of `ldstr` (III.4.16)

-- The texts of UTF-16 units that bodies load are those of the record: each at its place in `#US`, none twice.
pub record TextsFit (rec : AsmRec) : Type 0 where
  pub units : Each (λ t. AllByRecursion (λ u. u < 2 ^ 16) t.text) rec.user
  pub tokens : Each (λ t. t.token ≡ user_token (user_place (users_of rec) t.text)) rec.user
  pub once : (j k : ℕ) (t u : UserText) → slice_get rec.user j ≡ Some t → slice_get rec.user k ≡ Some u → t.text ≡ u.text → j ≡ k
  pub loaded : Each (λ t. IsTrue (is_loaded rec.method_def t.token)) rec.user
  pub only : (at : ℕ) → IsTrue (is_loaded rec.method_def (user_token at)) → (k : ℕ) × (t : UserText) × (slice_get rec.user k ≡ Some t) × (t.token ≡ user_token at)
