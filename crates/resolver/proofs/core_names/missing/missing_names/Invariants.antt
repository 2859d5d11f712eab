use Rattle.std.proofs.Common.{◌≡◌, [], drop}
use Rattle.rules.specs.link_rules.Cycles.{add_all}
use Rattle.rules.specs.link_rules.CoreNames.{same_core_name, missing_from}
use Rattle.resolver.proofs.core_names.missing.missing_names.Given as goal

abbrev pub invariant-loop-a : goal.invariant-loop-a
invariant-loop-a l =
    add_all same_core_name l.names (missing_from l.all l.a (drop l.a l.all)) ≡ add_all same_core_name [] (missing_from l.all 0 l.all)
