-- The tokens of keys, over what code holds.
use Rattle.std.specs.Prelude.{ℕ, List, map, position}
use Rattle.il_base.specs.declared.sig.Sig.{Sig}
use Rattle.il_base.specs.declared.table.TheConstants.{METHOD_DEF, FIELD, MEMBER_REF, METHOD_SPEC, TYPE_SPEC, STAND_ALONE_SIG}
use Rattle.il_base.specs.declared.world_model.record.AsmRec.{AsmRec}
use Rattle.rules.specs.merge_rules.Keys.{TypeKey, named, spec, same_sig, same_sigs, MethodKey, own_method, found_method, absent_method, FieldKey, own_field, found_field, InstanceKey, same_instance}
use Rattle.rules.specs.merge_rules.Refs.{MemberKey, a_method, a_field, an_absent, same_member, row_token, kept_token, method_at, field_at}
use Rattle.token_keys.specs.declared.key_codes.keys.AbsentMethod.{AbsentMethod}
use Rattle.token_keys.specs.key_codes.Keys as coded
use Rattle.reference_rows.specs.Types.{recs_in, AreTokens, type_token_by}
use Rattle.reference_rows.specs.declared.key_tokens.tokens.KeyTokens.{KeyTokens}

pub record AreKeyTokens (k : KeyTokens) : Type 0 where
  pub types : AreTokens k.types

-- the records of all assemblies
abbrev pub recs_of : KeyTokens → List AsmRec
recs_of k = recs_in k.types

unfoldable pub key_token_by : KeyTokens → TypeKey → ℕ
key_token_by k (named t) = type_token_by k.types t
key_token_by k (spec s) = row_token TYPE_SPEC (position (same_sig s) k.specs.now)

abbrev pub member_token_by : KeyTokens → MemberKey → ℕ
member_token_by k m = row_token MEMBER_REF (position (same_member m) (map coded.member_key k.members.now))

abbrev pub absent_token_by : KeyTokens → AbsentMethod → ℕ
absent_token_by k m = member_token_by k (an_absent (coded.type_key m.parent) m.name m.signature)

unfoldable pub method_token_by : KeyTokens → MethodKey → ℕ
method_token_by k (own_method m) = kept_token METHOD_DEF k.methods.now (method_at (recs_of k) m)
method_token_by k (found_method m e) = member_token_by k (a_method m e)
method_token_by k (absent_method p name s) = member_token_by k (an_absent p name s)

unfoldable pub field_token_by : KeyTokens → FieldKey → ℕ
field_token_by k (own_field f) = kept_token FIELD k.fields.now (field_at (recs_of k) f)
field_token_by k (found_field f e) = member_token_by k (a_field f e)

abbrev pub instance_token_by : KeyTokens → InstanceKey → ℕ
instance_token_by k i = row_token METHOD_SPEC (position (same_instance i) (map coded.instance_key k.instances.now))

abbrev pub locals_token_by : KeyTokens → List Sig → ℕ
locals_token_by k ss = row_token STAND_ALONE_SIG (position (same_sigs ss) k.locals.now)
