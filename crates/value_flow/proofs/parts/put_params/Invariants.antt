use Rattle.std.proofs.Common.{◌≡◌, ◌-◌, ◌++◌, map}
use Rattle.rules.specs.flow_rules.Moves.{parameters_from, parameters}
use Rattle.value_flow.specs.Numbers.{number_in}
use Rattle.value_flow.proofs.parts.put_params.Given as goal

abbrev pub invariant-loop-k : goal.invariant-loop-k
invariant-loop-k l =
    l.begins.items ++ map (number_in l.sources) (parameters_from l.k (l.params - l.k)) ≡ l.initial.begins.items ++ map (number_in l.sources) (parameters l.params)
