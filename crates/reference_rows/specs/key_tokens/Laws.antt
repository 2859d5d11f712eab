-- With what the output refers to, the tokens by keys are its own.
use Rattle.std.specs.Prelude.{◌≡◌, List, map}
use Rattle.il_base.specs.declared.sig.Sig.{Sig}
use Rattle.rules.specs.merge_rules.Numbers.{kept_methods, kept_fields}
use Rattle.rules.specs.merge_rules.Keys.{TypeKey, MethodKey, FieldKey, InstanceKey}
use Rattle.rules.specs.merge_rules.Refs.{Output, type_specs, member_refs, method_specs, locals_sigs, key_token, method_token, field_token, instance_token, locals_token}
use Rattle.token_keys.specs.key_codes.Keys as coded
use Rattle.reference_rows.specs.Laws.{AreOf}
use Rattle.reference_rows.specs.declared.key_tokens.tokens.KeyTokens.{KeyTokens}
use Rattle.reference_rows.specs.key_tokens.Keys.{key_token_by, method_token_by, field_token_by, instance_token_by, locals_token_by}

-- the references that an output makes, and its kept rows
pub record AreKeysOf (o : Output) (k : KeyTokens) : Type 0 where
  pub types : AreOf o k.types
  pub methods : k.methods.now ≡ kept_methods o.recs o.kept
  pub fields : k.fields.now ≡ kept_fields o.recs o.kept
  pub specs : k.specs.now ≡ type_specs o.recs o.mets
  pub members : map coded.member_key k.members.now ≡ member_refs o.mets
  pub instances : map coded.instance_key k.instances.now ≡ method_specs o.mets
  pub locals : k.locals.now ≡ locals_sigs o.mets

pub record AreTokensOf (o : Output) (k : KeyTokens) : Type 0 where
  pub of_types : (x : TypeKey) → key_token_by k x ≡ key_token o x
  pub of_methods : (x : MethodKey) → method_token_by k x ≡ method_token o x
  pub of_fields : (x : FieldKey) → field_token_by k x ≡ field_token o x
  pub of_instances : (x : InstanceKey) → instance_token_by k x ≡ instance_token o x
  pub of_locals : (x : List Sig) → locals_token_by k x ≡ locals_token o x

abbrev pub KeysTell : Type 0
KeysTell = (o : Output) (k : KeyTokens) → AreKeysOf o k → AreTokensOf o k
