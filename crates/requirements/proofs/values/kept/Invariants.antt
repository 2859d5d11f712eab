use Rattle.std.proofs.Common.{◌≡◌, ◌++◌, drop}
use Rattle.value_flow.specs.Flows.{is_carried}
use Rattle.rules.specs.site_rules.Values.{kept_from}
use Rattle.requirements.proofs.values.kept.Given as goal

abbrev pub invariant-loop-k : goal.invariant-loop-k
invariant-loop-k l = l.found ++ kept_from (is_carried l.flow l.offset l.slot) l.k (drop l.k l.sources) ≡ kept_from (is_carried l.flow l.offset l.slot) 0 l.sources
