use Rattle.std.proofs.Common.{◌≡◌, ◌++◌, drop}
use Rattle.attribute_values.specs.enum_names.Names.{named_under}
use Rattle.attribute_values.proofs.enum_names.named.add_within_each.Given as goal

abbrev pub invariant-loop-name : goal.invariant-loop-name
invariant-loop-name l = l.enums ++ named_under l.names l.from l.e (drop l.name-index l.own) ≡ l.initial.enums ++ named_under l.names l.from l.e l.own
