-- Rows over what code holds, and those of an output.
use Rattle.std.proofs.Common.{◌≡◌, [], ◌∷◌, map}
use Rattle.std.specs.List.{flat_map}
use Rattle.il_base.specs.declared.sig.Sig.{Sig}
use Rattle.il_base.specs.declared.sig.MethodSig.{MethodSig}
use Rattle.il_base.specs.declared.world_model.known.Known.TheVariants.{Good}
use Rattle.il_base.specs.declared.world_model.expr.TypeExpr.{TypeExpr}
use Rattle.il_base.specs.declared.world_model.expr.MemberSig.TheVariants as member
use Rattle.rules.specs.declared.link_rules.row_at.RowAt.{RowAt}
use Rattle.rules.specs.link_rules.Cycles.{listed}
use Rattle.rules.specs.merge_rules.Keys.{TypeKey, InstanceKey, expr_key}
use Rattle.rules.specs.merge_rules.Refs.{Output, MemberKey, a_method, a_field, an_absent, first_or, method_at, field_at, method_name, field_name, own_method_sig, own_field_sig, parent_token, member_ref_row, member_ref_rows, method_spec_rows}
use Rattle.token_keys.specs.signature_rows.Laws.{AreOutputs, SignaturesTell}
use Rattle.reference_rows.specs.key_tokens.Laws.{AreTokensOf, KeysTell}
use Rattle.restrict.specs.declared.member_rows.parts.RowParts.{RowParts}
use Rattle.restrict.specs.member_rows.Rows.{recs_of, parent_by, member_ref_by, member_refs_by, method_specs_by}
use Rattle.restrict.specs.member_rows.Laws.{ArePartsOf, AreMemberRows}

module _ (keys_tell : KeysTell) (signatures_tell : SignaturesTell) (o : Output) (p : RowParts) (are : ArePartsOf o p) where
  keys : AreTokensOf o p.keys
  keys = keys_tell o p.keys are.keys

  sigs : AreOutputs o p.numbers.now
  sigs = signatures_tell.outputs o p.numbers.now are.numbers

  parent_is : (e : TypeExpr) → parent_by p.keys (recs_of p) e ≡ parent_token o e
  parent_is e = λ i. first_or (map (λ (x : TypeKey). keys.of_types x i) (listed (expr_key (are.recs i) e))) 0

  member_is : (m : MemberKey) → member_ref_by p m ≡ member_ref_row o m
  member_is (a_method m e) =
      λ i. flat_map
      (λ (at : RowAt).
      map (λ (s : MethodSig). record { class = parent_is e i; name = method_name (are.recs i) at; signature = Good (member.Method (sigs.methods s i)) })
      (own_method_sig (are.recs i) at))
      (listed (method_at (are.recs i) m))
  member_is (a_field f e) =
      λ i. flat_map
      (λ (at : RowAt).
      map (λ (s : Sig). record { class = parent_is e i; name = field_name (are.recs i) at; signature = Good (member.Field (sigs.sigs s i)) })
      (own_field_sig (are.recs i) at))
      (listed (field_at (are.recs i) f))
  member_is (an_absent x name s) = λ i. record { class = keys.of_types x i; name = name; signature = Good (member.Method (sigs.methods s i)) } ∷ []

  members_are : member_refs_by p ≡ member_ref_rows o
  unfolding member_ref_rows
  members_are = λ i. flat_map (λ (m : MemberKey). member_is m i) (are.keys.members i)

  instances_are : method_specs_by p ≡ method_spec_rows o
  unfolding method_spec_rows
  instances_are =
      λ i. map (λ (x : InstanceKey). record { method = keys.of_methods x.method i; instantiation = Good (map (λ (s : Sig). sigs.sigs s i) x.args) }) (are.keys.instances i)

  pub all_tell : AreMemberRows o p
  all_tell = record { member_refs = members_are; method_specs = instances_are }
