use Rattle.std.proofs.Common.{◌≡◌, take}
use Rattle.rules.specs.link_rules.CoreNames.{core_with}
use Rattle.resolver.proofs.core_names.with_names.add_names.Given as goal

abbrev pub invariant-loop-name : goal.invariant-loop-name
invariant-loop-name l = l.core ≡ core_with l.initial.core (take l.name-index l.names)
