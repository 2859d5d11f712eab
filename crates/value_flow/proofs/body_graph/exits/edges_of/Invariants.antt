use Rattle.std.proofs.Common.{◌≡◌, ◌++◌, drop, map}
use Rattle.rules.specs.flow_rules.Steps.{offsets}
use Rattle.rules.specs.flow_rules.Exits.{exit_offsets}
use Rattle.value_flow.proofs.body_graph.exits.edges_of.Given as goal

abbrev pub invariant-loop-e : goal.invariant-loop-e
invariant-loop-e l = l.edges ++ map (exit_offsets (offsets l.code)) (drop l.e-index l.exits) ≡ map (exit_offsets (offsets l.code)) l.exits
