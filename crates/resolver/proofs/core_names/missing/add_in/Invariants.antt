use Rattle.std.proofs.Common.{◌≡◌, drop}
use Rattle.std.specs.List.{flat_map}
use Rattle.rules.specs.link_rules.Cycles.{add_all}
use Rattle.rules.specs.link_rules.CoreNames.{same_core_name, missing_at}
use Rattle.resolver.proofs.core_names.missing.add_in.Given as goal

abbrev pub invariant-loop-token : goal.invariant-loop-token
invariant-loop-token l =
    add_all same_core_name l.names (flat_map (missing_at l.all l.a l.rec) (drop l.token-index l.tokens))
    ≡ add_all same_core_name l.initial.names (flat_map (missing_at l.all l.a l.rec) l.tokens)
