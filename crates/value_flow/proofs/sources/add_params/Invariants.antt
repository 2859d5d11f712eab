use Rattle.std.proofs.Common.{◌≡◌, ◌-◌}
use Rattle.rules.specs.link_rules.Cycles.{add_all}
use Rattle.rules.specs.flow_rules.Sources.{same_source}
use Rattle.rules.specs.flow_rules.Moves.{parameters_from, parameters}
use Rattle.value_flow.proofs.sources.add_params.Given as goal

abbrev pub invariant-loop-k : goal.invariant-loop-k
invariant-loop-k l = add_all same_source l.sources (parameters_from l.k (l.params - l.k)) ≡ add_all same_source l.initial.sources (parameters l.params)
