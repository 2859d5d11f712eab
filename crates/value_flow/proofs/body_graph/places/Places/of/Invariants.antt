use Rattle.std.proofs.Common.{◌≡◌, ◌++◌, drop}
use Rattle.rules.specs.flow_rules.Steps.{offsets}
use Rattle.value_flow.proofs.body_graph.places.Places.of.Given as goal

abbrev pub invariant-loop-i : goal.invariant-loop-i
invariant-loop-i l = l.keys.items ++ offsets (drop l.i-index l.code) ≡ offsets l.code
