use Rattle.std.proofs.Common.{◌≡◌, drop}
use Rattle.rules.specs.flow_rules.Steps.{leaves_to}
use Rattle.value_flow.proofs.body_graph.blocks.leaves_to.Given as goal

abbrev pub invariant-loop-h : goal.invariant-loop-h
invariant-loop-h l = leaves_to (drop l.h-index l.handlers) l.at l.to ≡ leaves_to l.handlers l.at l.to
