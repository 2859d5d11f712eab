-- Two are the same exactly where their codes are.
use Rattle.std.specs.Prelude.{◌≡◌, List, bytes_eq}
use Rattle.il_base.specs.declared.sig.Sig.{Sig}
use Rattle.il_base.specs.declared.sig.MethodSig.{MethodSig}
use Rattle.rules.specs.merge_rules.Keys.{same_sig, same_sigs, same_method_sig, TypeKey, same_type, MethodKey, same_method, FieldKey, same_field, InstanceKey, same_instance}
use Rattle.rules.specs.merge_rules.Refs.{MemberKey, same_member}
use Rattle.token_keys.specs.key_codes.Codes.{sig_code, sigs_code, method_sig_code}
use Rattle.token_keys.specs.key_codes.KeyCodes.{type_key_code, method_key_code, field_key_code, instance_key_code, member_key_code}

pub record AreCodes : Type 0 where
  pub sigs : (x y : Sig) → same_sig x y ≡ bytes_eq (sig_code x) (sig_code y)
  pub lists : (xs ys : List Sig) → same_sigs xs ys ≡ bytes_eq (sigs_code xs) (sigs_code ys)
  pub methods : (s r : MethodSig) → same_method_sig s r ≡ bytes_eq (method_sig_code s) (method_sig_code r)

abbrev pub CodesTell : Type 0
CodesTell = AreCodes

pub record AreKeyCodes : Type 0 where
  pub types : (x y : TypeKey) → same_type x y ≡ bytes_eq (type_key_code x) (type_key_code y)
  pub methods : (x y : MethodKey) → same_method x y ≡ bytes_eq (method_key_code x) (method_key_code y)
  pub fields : (x y : FieldKey) → same_field x y ≡ bytes_eq (field_key_code x) (field_key_code y)
  pub instances : (x y : InstanceKey) → same_instance x y ≡ bytes_eq (instance_key_code x) (instance_key_code y)
  pub members : (x y : MemberKey) → same_member x y ≡ bytes_eq (member_key_code x) (member_key_code y)

abbrev pub KeyCodesTell : Type 0
KeyCodesTell = AreKeyCodes
