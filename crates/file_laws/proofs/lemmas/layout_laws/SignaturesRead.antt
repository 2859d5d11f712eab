-- Signatures are read again from the blobs in which they are written.
use Rattle.std.proofs.Common.{◌≡◌, ℕ, zero, suc, true, false, Bool, List, ◌++◌, Ok, refl, ap, ◌∙◌}
use Rattle.std.specs.Prelude.{Result, if◌then◌else◌}
use Rattle.il_base.specs.declared.sig.Sig.{Sig}
use Rattle.il_base.specs.declared.sig.MethodSig.{MethodSig}
use Rattle.il_base.specs.blob_grammar.Signatures.{levels, method_bytes, field_bytes, method_head, parts_bytes}
use Rattle.il_base.specs.blob_grammar.Reading.{type_of_blob, method_of_blob, property_of_blob, field_of_blob, locals_of_blob, instance_of_blob}
use Rattle.il_base.specs.blob_grammar.Values.{FitsType, FitsMethod, FitsProperty, FitRow}
use Rattle.il_base.specs.declared.world_model.known.Known.{Known}
use Rattle.il_base.specs.declared.world_model.known.Known.TheVariants.{Good, Bad}
use Rattle.il_base.specs.declared.world_model.expr.MemberSig.{MemberSig}
use Rattle.il_base.specs.declared.world_model.expr.MemberSig.TheVariants as member
use Rattle.rules.specs.file_layout.Rows.{method_blob, member_blob, locals_blob}
use Rattle.rules.specs.record_layout.Rows.{spelled, field_blob, property_blob, type_blob, instance_blob}
use Rattle.rules.specs.record_format.Parts.{known_of, known_map, begins_field, member_of_blob}
use Rattle.file_laws.specs.layout_laws.Parts.{IsGood, FitsMember}
use Rattle.file_laws.proofs.lemmas.layout_laws.Lower.{Lower}

again_by : {A : Type 0} (P : A → Type 0) (read : List ℕ → Result A (ℕ × ℕ)) (write : A → List ℕ) → ((x : A) → P x → read (write x) ≡ Ok x) → (k : Known A) → IsGood P k → known_of (read (spelled write k)) ≡ k
again_by P read write again (Good x) fits = ap known_of (again x fits)
again_by P read write again (Bad why) fits = absurd fits

pub field_sig_again : Lower → (k : Known Sig) → IsGood (FitsType levels) k → known_of (field_of_blob (field_blob k)) ≡ k
field_sig_again lower k fits = again_by (FitsType levels) field_of_blob field_bytes (λ s f. lower.fields.again s ((lower.field_values s).0 f)) k fits

pub property_sig_again : Lower → (k : Known MethodSig) → IsGood FitsProperty k → known_of (property_of_blob (property_blob k)) ≡ k
property_sig_again lower (Good s) fits = ap known_of (lower.properties.again s ((lower.property_values s).0 fits))
property_sig_again lower (Bad why) fits = absurd fits

pub type_sig_again : Lower → (k : Known Sig) → IsGood (FitsType levels) k → known_of (type_of_blob (type_blob k)) ≡ k
type_sig_again lower (Good s) fits = ap known_of (lower.types.again s ((lower.type_values s).0 fits))
type_sig_again lower (Bad why) fits = absurd fits

pub instance_sig_again : Lower → (k : Known (List Sig)) → IsGood FitRow k → known_of (instance_of_blob (instance_blob k)) ≡ k
instance_sig_again lower (Good ss) fits = ap known_of (lower.instances.again ss ((lower.instance_values ss).0 fits))
instance_sig_again lower (Bad why) fits = absurd fits

pub locals_sig_again : Lower → (k : Known (List Sig)) → IsGood FitRow k → known_of (locals_of_blob (locals_blob k)) ≡ k
locals_sig_again lower (Good ss) fits = ap known_of (lower.locals.again ss ((lower.local_values ss).0 fits))
locals_sig_again lower (Bad why) fits = absurd fits

pub method_sig_again : Lower → (k : Known MethodSig) → IsGood FitsMethod k → known_of (method_of_blob (method_blob k)) ≡ k
method_sig_again lower (Good s) fits = ap known_of (lower.methods.again s ((lower.method_values s).0 fits))
method_sig_again lower (Bad why) fits = absurd fits

-- ---- members: a field's signature begins with FIELD, a method's doesn't

no_field : (this : Bool) (generic : ℕ) (rest : List ℕ) → begins_field (method_head this generic ++ rest) ≡ false
no_field true zero rest = refl
no_field true (suc n) rest = refl
no_field false zero rest = refl
no_field false (suc n) rest = refl

as_member : (bs : List ℕ) (b : Bool) → begins_field bs ≡ b
    → member_of_blob bs ≡ (if b then known_map member.Field (known_of (field_of_blob bs)) else known_map member.Method (known_of (method_of_blob bs)))
unfolding member_of_blob
as_member bs b e = ap (λ (b : Bool). if b then known_map member.Field (known_of (field_of_blob bs)) else known_map member.Method (known_of (method_of_blob bs))) e

pub member_sig_again : Lower → (k : Known MemberSig) → IsGood FitsMember k → member_of_blob (member_blob k) ≡ k
member_sig_again lower (Good (member.Method s)) fits =
    as_member (method_bytes s) false (no_field s.this s.generic (parts_bytes s.ret s.params))
    ∙ ap (λ (r : Result MethodSig (ℕ × ℕ)). known_map member.Method (known_of r)) (lower.methods.again s ((lower.method_values s).0 fits))
member_sig_again lower (Good (member.Field s)) fits =
    as_member (field_bytes s) true refl
    ∙ ap (λ (r : Result Sig (ℕ × ℕ)). known_map member.Field (known_of r)) (lower.fields.again s ((lower.field_values s).0 fits))
member_sig_again lower (Bad why) fits = absurd fits
