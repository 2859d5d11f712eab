-- Tokens by keys over what code holds, and those of an output.
use Rattle.std.proofs.Common.{◌≡◌, List}
use Rattle.std.specs.Prelude.{position}
use Rattle.il_base.specs.declared.sig.Sig.{Sig}
use Rattle.il_base.specs.declared.table.TheConstants.{METHOD_DEF, FIELD, MEMBER_REF, METHOD_SPEC, TYPE_SPEC, STAND_ALONE_SIG}
use Rattle.rules.specs.merge_rules.Keys.{TypeKey, named, spec, same_sig, same_sigs, MethodKey, own_method, found_method, absent_method, FieldKey, own_field, found_field, InstanceKey, same_instance}
use Rattle.rules.specs.merge_rules.Refs.{Output, MemberKey, a_method, a_field, an_absent, same_member, row_token, kept_token, method_at, field_at, key_token, member_token, method_token, field_token, instance_token, locals_token}
use Rattle.reference_rows.specs.Laws.{AreTypesOf, TypesTell}
use Rattle.reference_rows.specs.declared.key_tokens.tokens.KeyTokens.{KeyTokens}
use Rattle.reference_rows.specs.key_tokens.Keys.{key_token_by, member_token_by, method_token_by, field_token_by, instance_token_by, locals_token_by}
use Rattle.reference_rows.specs.key_tokens.Laws.{AreKeysOf, AreTokensOf}

module _ (tell : TypesTell) (o : Output) (k : KeyTokens) (are : AreKeysOf o k) where
  types_are : AreTypesOf o k.types
  types_are = tell o k.types are.types

  keys_are : (x : TypeKey) → key_token_by k x ≡ key_token o x
  unfolding key_token_by key_token
  keys_are (named t) = types_are.tokens t
  keys_are (spec s) = λ i. row_token TYPE_SPEC (position (same_sig s) (are.specs i))

  members_are : (m : MemberKey) → member_token_by k m ≡ member_token o m
  members_are m = λ i. row_token MEMBER_REF (position (same_member m) (are.members i))

  methods_are : (x : MethodKey) → method_token_by k x ≡ method_token o x
  unfolding method_token_by method_token
  methods_are (own_method m) = λ i. kept_token METHOD_DEF (are.methods i) (method_at (are.types.recs i) m)
  methods_are (found_method m e) = members_are (a_method m e)
  methods_are (absent_method p name s) = members_are (an_absent p name s)

  fields_are : (x : FieldKey) → field_token_by k x ≡ field_token o x
  unfolding field_token_by field_token
  fields_are (own_field f) = λ i. kept_token FIELD (are.fields i) (field_at (are.types.recs i) f)
  fields_are (found_field f e) = members_are (a_field f e)

  instances_are : (x : InstanceKey) → instance_token_by k x ≡ instance_token o x
  unfolding instance_token
  instances_are x = λ i. row_token METHOD_SPEC (position (same_instance x) (are.instances i))

  locals_are : (x : List Sig) → locals_token_by k x ≡ locals_token o x
  unfolding locals_token
  locals_are x = λ i. row_token STAND_ALONE_SIG (position (same_sigs x) (are.locals i))

  pub all_tell : AreTokensOf o k
  all_tell = record { of_types = keys_are; of_methods = methods_are; of_fields = fields_are; of_instances = instances_are; of_locals = locals_are }
