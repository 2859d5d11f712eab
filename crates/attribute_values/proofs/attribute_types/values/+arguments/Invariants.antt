use Rattle.std.proofs.Common.{◌≡◌, ◌++◌, drop}
use Rattle.std.specs.List.{flat_map}
use Rattle.rules.specs.mark_rules.Attributes.{arg_types}
use Rattle.attribute_values.proofs.attribute_types.values.+arguments.Given as goal

abbrev pub invariant-add_args-loop-arg : goal.invariant-add_args-loop-arg
invariant-add_args-loop-arg l = l.types.items ++ flat_map (arg_types l.names l.from) (drop l.arg-index l.args) ≡ l.initial.types.items ++ flat_map (arg_types l.names l.from) l.args
