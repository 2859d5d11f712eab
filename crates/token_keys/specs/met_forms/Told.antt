-- What code holds of what is met, as the definitions have it.
use Rattle.rules.specs.merge_rules.Order as order
use Rattle.token_keys.specs.key_codes.Keys.{type_key, method_key, field_key, instance_key}
use Rattle.token_keys.specs.declared.met_forms.met.Met.{Met}
use Rattle.token_keys.specs.declared.met_forms.met.Met.TheVariants as met

abbrev pub met_told : Met → order.Met
met_told (met.Type k) = order.met_type (type_key k)
met_told (met.Sig s) = order.met_sig s
met_told (met.Method m) = order.met_method (method_key m)
met_told (met.Field f) = order.met_field (field_key f)
met_told (met.Instance i) = order.met_instance (instance_key i)
met_told (met.Locals ss) = order.met_locals ss
