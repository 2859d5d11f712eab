use Rattle.std.proofs.Common.{◌≡◌, drop}
use Rattle.rules.specs.flow_rules.Steps.{innermost, innermost_from}
use Rattle.value_flow.proofs.body_graph.blocks.innermost.Given as goal

abbrev pub invariant-loop-n : goal.invariant-loop-n
invariant-loop-n l = innermost_from l.at l.best l.n (drop l.n l.handlers) ≡ innermost l.handlers l.at
