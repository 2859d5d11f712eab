use Rattle.std.proofs.Common.{◌≡◌, drop}
use Rattle.rules.specs.flow_rules.Flows.{deepest, deepest_from}
use Rattle.value_flow.proofs.parts.deepest.Given as goal

abbrev pub invariant-loop-depth : goal.invariant-loop-depth
invariant-loop-depth l = deepest_from l.most (drop l.depth-index l.depths) ≡ deepest l.depths
