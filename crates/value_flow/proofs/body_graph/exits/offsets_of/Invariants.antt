use Rattle.std.proofs.Common.{◌≡◌, ◌++◌, drop}
use Rattle.std.specs.List.{flat_map}
use Rattle.rules.specs.flow_rules.Steps.{offsets}
use Rattle.rules.specs.flow_rules.Exits.{offset_to}
use Rattle.value_flow.proofs.body_graph.exits.offsets_of.Given as goal

abbrev pub invariant-loop-step : goal.invariant-loop-step
invariant-loop-step l = l.out ++ flat_map (offset_to (offsets l.code)) (drop l.step-index l.e.steps) ≡ flat_map (offset_to (offsets l.code)) l.e.steps
