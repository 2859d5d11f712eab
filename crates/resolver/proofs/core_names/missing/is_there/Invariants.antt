use Rattle.std.proofs.Common.{◌≡◌, drop}
use Rattle.std.specs.List.{list_any}
use Rattle.rules.specs.link_rules.CoreNames.{same_core_name}
use Rattle.resolver.proofs.core_names.missing.is_there.Given as goal

abbrev pub invariant-loop-one : goal.invariant-loop-one
invariant-loop-one l =
    list_any (same_core_name (record { namespace = l.namespace; name = l.name })) (drop l.one-index l.names)
    ≡ list_any (same_core_name (record { namespace = l.namespace; name = l.name })) l.names
