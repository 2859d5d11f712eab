-- No type, field or method of a record is there twice, where two that are the same stand for two of an input that are the same.
use Rattle.std.specs.Prelude.{◌≡◌, ◌<◌, ℕ, List, [], ◌∷◌, Option, Some, None, slice_get, Bool, true}
use Rattle.il_base.specs.declared.world_model.expr.TypeExpr.{TypeExpr}
use Rattle.il_base.specs.declared.world_model.record.AsmRec.{AsmRec}
use Rattle.il_base.specs.world_model.Exprs.{same_expr}
use Rattle.rules.specs.declared.link_rules.member_type.MethodType.{MethodType}
use Rattle.rules.specs.link_rules.Signatures.{same_method_type}
use Rattle.rules.specs.link_rules.Faults.{same_key, numbered, TypeKey, same_type_key, type_key, MemberKey, same_member_key, field_key, method_key, duplicate_member}
use Rattle.rules.specs.link_rules.Linked.{assemblies, link_fault_of}

-- two items of an input that are the same
pub record Twice {A : Type 0} (same : A → A → Bool) (keys : ℕ → AsmRec → List (Option A)) (inputs : List AsmRec) : Type 0 where
  pub asm : ℕ
  pub rec : AsmRec
  pub there : slice_get inputs asm ≡ Some rec
  pub first : ℕ
  pub second : ℕ
  pub less : first < second
  pub x : Option A
  pub y : Option A
  pub one : slice_get (keys asm rec) first ≡ Some x
  pub other : slice_get (keys asm rec) second ≡ Some y
  pub alike : same_key same y x ≡ true

-- two of the record that are the same lead to such
abbrev pub KeysBack : {A : Type 0} → (A → A → Bool) → (ℕ → AsmRec → List (Option A)) → List (Option A) → List AsmRec → Type 0
KeysBack {A} same keys new inputs =
    (j k : ℕ) (x y : Option A) → j < k → slice_get new j ≡ Some x → slice_get new k ≡ Some y → same_key same y x ≡ true → Twice same keys inputs

abbrev pub type_keys : ℕ → AsmRec → List (Option TypeKey)
type_keys a rec = numbered (type_key rec) 0 rec.type_def

abbrev pub field_keys : List AsmRec → ℕ → AsmRec → List (Option (MemberKey TypeExpr))
field_keys all a rec = numbered (field_key all a rec) 0 rec.field

abbrev pub method_keys : List AsmRec → ℕ → AsmRec → List (Option (MemberKey MethodType))
method_keys all a rec = numbered (method_key all a rec) 0 rec.method_def

abbrev pub RepeatsStay : Type 0
RepeatsStay =
    (inputs : List AsmRec) (left : AsmRec) → link_fault_of inputs ≡ None → KeysBack same_type_key type_keys (type_keys 0 left) inputs
    → KeysBack (same_member_key same_expr) (field_keys (assemblies inputs)) (field_keys (assemblies (left ∷ [])) 0 left) inputs
    → KeysBack (same_member_key same_method_type) (method_keys (assemblies inputs)) (method_keys (assemblies (left ∷ [])) 0 left) inputs
    → duplicate_member (assemblies (left ∷ [])) (left ∷ []) ≡ None
