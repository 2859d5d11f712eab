-- The keys that code holds, as those of the definitions.
use Rattle.rules.specs.merge_rules.Keys as rules
use Rattle.rules.specs.merge_rules.Refs as refs
use Rattle.token_keys.specs.declared.key_codes.keys.TypeKey.{TypeKey}
use Rattle.token_keys.specs.declared.key_codes.keys.TypeKey.TheVariants as type_case
use Rattle.token_keys.specs.declared.key_codes.keys.MethodKey.{MethodKey}
use Rattle.token_keys.specs.declared.key_codes.keys.MethodKey.TheVariants as method_case
use Rattle.token_keys.specs.declared.key_codes.keys.FieldKey.{FieldKey}
use Rattle.token_keys.specs.declared.key_codes.keys.FieldKey.TheVariants as field_case
use Rattle.token_keys.specs.declared.key_codes.keys.InstanceKey.{InstanceKey}
use Rattle.token_keys.specs.declared.key_codes.keys.MemberKey.{MemberKey}
use Rattle.token_keys.specs.declared.key_codes.keys.MemberKey.TheVariants as member_case

abbrev pub type_key : TypeKey → rules.TypeKey
type_key (type_case.Named t) = rules.named t
type_key (type_case.Spec s) = rules.spec s

abbrev pub method_key : MethodKey → rules.MethodKey
method_key (method_case.Own m) = rules.own_method m
method_key (method_case.Found m e) = rules.found_method m e
method_key (method_case.Absent x) = rules.absent_method (type_key x.parent) x.name x.signature

abbrev pub field_key : FieldKey → rules.FieldKey
field_key (field_case.Own f) = rules.own_field f
field_key (field_case.Found f e) = rules.found_field f e

abbrev pub instance_key : InstanceKey → rules.InstanceKey
instance_key i = record { method = method_key i.method; args = i.args }

abbrev pub member_key : MemberKey → refs.MemberKey
member_key (member_case.Method m e) = refs.a_method m e
member_key (member_case.Field f e) = refs.a_field f e
member_key (member_case.Absent x) = refs.an_absent (type_key x.parent) x.name x.signature
