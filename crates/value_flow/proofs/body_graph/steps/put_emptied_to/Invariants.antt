use Rattle.std.proofs.Common.{◌≡◌, ◌++◌, drop}
use Rattle.rules.specs.flow_rules.Steps.{offsets, emptied_to}
use Rattle.value_flow.proofs.body_graph.steps.put_emptied_to.Given as goal

abbrev pub invariant-loop-offset : goal.invariant-loop-offset
invariant-loop-offset l = l.out ++ emptied_to (offsets l.c.code.now) (drop l.offset-index l.to) ≡ l.initial.out ++ emptied_to (offsets l.c.code.now) l.to
