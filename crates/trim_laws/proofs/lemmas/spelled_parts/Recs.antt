-- The signatures and bodies of records that have spellings.
use Rattle.std.proofs.Common.{◌≡◌, ◌↔◌, ℕ, List, arith}
use Rattle.std.specs.Prelude.{All}
use Rattle.std.proofs.lemmas.List.Elements.{All-contains}
use Rattle.il_base.specs.declared.sig.Sig.{Sig}
use Rattle.il_base.specs.declared.sig.MethodSig.{MethodSig}
use Rattle.il_base.specs.blob_grammar.Laws.{IsSpelled}
use Rattle.il_base.specs.blob_grammar.Signatures.{levels, IsType, IsMethod, IsProperty, IsField, AreLocals, IsInstance}
use Rattle.il_base.specs.blob_grammar.Values.{FitsNumber, FitsType, FitsMethod, FitsProperty, FitRow}
use Rattle.il_base.specs.declared.world_model.known.Known.{Known}
use Rattle.il_base.specs.declared.world_model.known.Known.TheVariants.{Good, Bad}
use Rattle.il_base.specs.declared.world_model.expr.MemberSig.{MemberSig}
use Rattle.il_base.specs.declared.world_model.expr.MemberSig.TheVariants as member
use Rattle.il_base.specs.declared.world_model.types.TypeSpecRow.{TypeSpecRow}
use Rattle.il_base.specs.declared.world_model.members.FieldRow.{FieldRow}
use Rattle.il_base.specs.declared.world_model.members.MethodDefRow.{MethodDefRow}
use Rattle.il_base.specs.declared.world_model.members.MemberRefRow.{MemberRefRow}
use Rattle.il_base.specs.declared.world_model.members.MethodSpecRow.{MethodSpecRow}
use Rattle.il_base.specs.declared.world_model.members.StandAloneSigRow.{StandAloneSigRow}
use Rattle.il_base.specs.declared.world_model.members.PropertyRow.{PropertyRow}
use Rattle.il_base.specs.declared.world_model.record.AsmRec.{AsmRec}
use Rattle.il_base.specs.world_model.Records.{Each}
use Rattle.record_writer.specs.row_writer.CanWrite.{HasSpelling, HasMemberSpelling}
use Rattle.record_writer.specs.CanWrite.{HasBody, CanWrite}
use Rattle.merge_laws.proofs.lemmas.merged_record.Lists.{place_in}
use Rattle.trim_laws.proofs.lemmas.spelled_parts.Shapes.{Shape, RowShape, MethodShape, type_shape, row_shape, method_shape}

-- what fits is what has a spelling
pub record Values : Type 0 where
  pub types : (s : Sig) → FitsType levels s ↔ IsSpelled (IsType levels) s
  pub methods : (m : MethodSig) → FitsMethod m ↔ IsSpelled IsMethod m
  pub properties : (m : MethodSig) → FitsProperty m ↔ IsSpelled IsProperty m
  pub fields : (s : Sig) → FitsType levels s ↔ IsSpelled IsField s
  pub locals : (ss : List Sig) → FitRow ss ↔ IsSpelled AreLocals ss
  pub instances : (ss : List Sig) → FitRow ss ↔ IsSpelled IsInstance ss

abbrev pub IfGood : {A : Type 0} → (A → Type 0) → Known A → Type 0
IfGood P (Good x) = P x
IfGood P (Bad why) = Unit {0}

pub record PropertyShape (m : MethodSig) : Type 0 where
  pub plain : m.generic ≡ 0
  pub shape : MethodShape m

abbrev pub MemberShape : MemberSig → Type 0
MemberShape (member.Method s) = MethodShape s
MemberShape (member.Field s) = Shape levels s

pub record HasShapes (rec : AsmRec) : Type 0 where
  pub fields : Each (λ row. IfGood (Shape levels) row.signature) rec.field
  pub methods : Each (λ row. IfGood MethodShape row.signature) rec.method_def
  pub members : Each (λ row. IfGood MemberShape row.signature) rec.member_ref
  pub locals : Each (λ row. IfGood RowShape row.signature) rec.stand_alone_sig
  pub properties : Each (λ row. IfGood PropertyShape row.signature) rec.property
  pub types : Each (λ row. IfGood (Shape levels) row.signature) rec.type_spec
  pub instances : Each (λ row. IfGood RowShape row.instantiation) rec.method_spec
  pub bodies : Each (λ row. HasBody row.body) rec.method_def

each_of : {A : Type 0} (P Q : A → Type 0) (rows : List A) → ((x : A) → P x → Q x) → All P rows → Each Q rows
each_of P Q rows h all k row e = h row (All-contains P rows row all (place_in rows k row e))

good_shape : {A : Type 0} (grammar : A → List ℕ → Type 0) (P : A → Type 0) → ((x : A) → IsSpelled grammar x → P x) → (k : Known A) → HasSpelling grammar k → IfGood P k
good_shape grammar P h (Good x) s = h x s
good_shape grammar P h (Bad why) s = tt

zero_low : (n : ℕ) → n ≡ 0 → FitsNumber n
zero_low n e = omega (arith, e)

module _ (v : Values) where
  member_shape : (k : Known MemberSig) → HasMemberSpelling k → IfGood MemberShape k
  member_shape (Good (member.Method s)) h = method_shape s ((v.methods s).1 h)
  member_shape (Good (member.Field s)) h = type_shape levels s ((v.fields s).1 h)
  member_shape (Bad why) h = tt

  property_shape : (m : MethodSig) → IsSpelled IsProperty m → PropertyShape m
  property_shape m h = let f = (v.properties m).1 h in record { plain = f.generic; shape = record { generic = zero_low m.generic f.generic; ret = type_shape levels m.ret f.ret; params = row_shape m.params f.params } }

  pub shapes_of : (rec : AsmRec) → CanWrite rec → HasShapes rec
  shapes_of rec can = record {
    fields = each_of (λ (row : FieldRow). HasSpelling IsField row.signature) (λ (row : FieldRow). IfGood (Shape levels) row.signature) rec.field
        (λ row. good_shape IsField (Shape levels) (λ s h. type_shape levels s ((v.fields s).1 h)) row.signature) can.rows.fields;
    methods = each_of (λ (row : MethodDefRow). HasSpelling IsMethod row.signature) (λ (row : MethodDefRow). IfGood MethodShape row.signature) rec.method_def
        (λ row. good_shape IsMethod MethodShape (λ s h. method_shape s ((v.methods s).1 h)) row.signature) can.rows.methods;
    members = each_of (λ (row : MemberRefRow). HasMemberSpelling row.signature) (λ (row : MemberRefRow). IfGood MemberShape row.signature) rec.member_ref (λ row. member_shape row.signature) can.rows.members;
    locals = each_of (λ (row : StandAloneSigRow). HasSpelling AreLocals row.signature) (λ (row : StandAloneSigRow). IfGood RowShape row.signature) rec.stand_alone_sig
        (λ row. good_shape AreLocals RowShape (λ ss h. row_shape ss ((v.locals ss).1 h)) row.signature) can.rows.locals;
    properties = each_of (λ (row : PropertyRow). HasSpelling IsProperty row.signature) (λ (row : PropertyRow). IfGood PropertyShape row.signature) rec.property
        (λ row. good_shape IsProperty PropertyShape property_shape row.signature) can.rows.properties;
    types = each_of (λ (row : TypeSpecRow). HasSpelling (IsType levels) row.signature) (λ (row : TypeSpecRow). IfGood (Shape levels) row.signature) rec.type_spec
        (λ row. good_shape (IsType levels) (Shape levels) (λ s h. type_shape levels s ((v.types s).1 h)) row.signature) can.rows.types;
    instances = each_of (λ (row : MethodSpecRow). HasSpelling IsInstance row.instantiation) (λ (row : MethodSpecRow). IfGood RowShape row.instantiation) rec.method_spec
        (λ row. good_shape IsInstance RowShape (λ ss h. row_shape ss ((v.instances ss).1 h)) row.instantiation) can.rows.instances;
    bodies = each_of (λ (row : MethodDefRow). HasBody row.body) (λ (row : MethodDefRow). HasBody row.body) rec.method_def (λ row h. h) can.bodies;
  }
