use Rattle.std.proofs.Common.{◌≡◌, ◌++◌, drop}
use Rattle.std.specs.List.{flat_map}
use Rattle.rules.specs.mark_rules.Attributes.{named_types}
use Rattle.attribute_values.proofs.attribute_types.values.add_named_args.Given as goal

abbrev pub invariant-loop-n : goal.invariant-loop-n
invariant-loop-n l = l.types.items ++ flat_map (named_types l.names l.from) (drop l.n-index l.named) ≡ l.initial.types.items ++ flat_map (named_types l.names l.from) l.named
