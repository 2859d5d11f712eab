use Rattle.std.proofs.Common.{◌≡◌, ◌++◌, drop, map}
use Rattle.rules.specs.flow_rules.Sources.{turn}
use Rattle.value_flow.specs.Numbers.{number_in}
use Rattle.value_flow.proofs.parts.turned.Given as goal

abbrev pub invariant-loop-s : goal.invariant-loop-s
invariant-loop-s l =
    l.numbers.items ++ map (λ x. number_in l.sources (turn l.types.recs l.from l.t x)) (drop l.s-index l.sources)
    ≡ map (λ x. number_in l.sources (turn l.types.recs l.from l.t x)) l.sources
