use Rattle.std.proofs.Common.{◌≡◌, ◌++◌, drop}
use Rattle.link_faults.specs.Graphs.{AreMarked}
use Rattle.link_faults.proofs.graph.found_first.Given as goal

abbrev pub invariant-loop-node : goal.invariant-loop-node
invariant-loop-node l = record {
  added : l.found.nodes ++ drop l.node-index l.nodes ≡ l.nodes;
  marked : AreMarked l.found.marks.items l.found.nodes;
}
