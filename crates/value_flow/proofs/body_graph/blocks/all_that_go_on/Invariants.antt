use Rattle.std.proofs.Common.{◌≡◌, ◌++◌, drop}
use Rattle.std.specs.List.{flat_map}
use Rattle.rules.specs.flow_rules.Steps.{goes_on}
use Rattle.value_flow.proofs.body_graph.blocks.all_that_go_on.Given as goal

abbrev pub invariant-loop-i : goal.invariant-loop-i
invariant-loop-i l = l.out ++ flat_map (goes_on l.handlers l.p) (drop l.i-index l.code) ≡ flat_map (goes_on l.handlers l.p) l.code
