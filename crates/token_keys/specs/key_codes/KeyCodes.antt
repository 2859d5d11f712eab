-- What types, members and instances are known by, as lists of numbers.
use Rattle.std.specs.Prelude.{ℕ, List, [], ◌∷◌, ◌++◌}
use Rattle.link_faults.specs.Codes.{type_code, with_text}
use Rattle.rules.specs.merge_rules.Keys.{TypeKey, named, spec, MethodKey, own_method, found_method, absent_method, FieldKey, own_field, found_field, InstanceKey}
use Rattle.rules.specs.merge_rules.Refs.{MemberKey, a_method, a_field, an_absent}
use Rattle.token_keys.specs.key_codes.Codes.{sig_code, sigs_code, method_sig_code}

abbrev pub type_key_code : TypeKey → List ℕ
type_key_code (named t) = 0 ∷ t.0 ∷ []
type_key_code (spec s) = 1 ∷ sig_code s

abbrev pub method_key_code : MethodKey → List ℕ
method_key_code (own_method m) = 0 ∷ m.0 ∷ []
method_key_code (found_method m e) = 1 ∷ m.0 ∷ type_code e
method_key_code (absent_method p name s) = 2 ∷ type_key_code p ++ with_text name (method_sig_code s)

abbrev pub field_key_code : FieldKey → List ℕ
field_key_code (own_field f) = 0 ∷ f.0 ∷ []
field_key_code (found_field f e) = 1 ∷ f.0 ∷ type_code e

abbrev pub instance_key_code : InstanceKey → List ℕ
instance_key_code i = method_key_code i.method ++ sigs_code i.args

abbrev pub member_key_code : MemberKey → List ℕ
member_key_code (a_method m e) = 0 ∷ m.0 ∷ type_code e
member_key_code (a_field f e) = 1 ∷ f.0 ∷ type_code e
member_key_code (an_absent p name s) = 2 ∷ type_key_code p ++ with_text name (method_sig_code s)
