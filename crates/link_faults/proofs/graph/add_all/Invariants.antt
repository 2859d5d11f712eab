use Rattle.std.proofs.Common.{◌≡◌, nat_eq, drop}
use Rattle.rules.specs.link_rules.Cycles.{add_all}
use Rattle.link_faults.specs.Graphs.{AreMarked}
use Rattle.link_faults.proofs.graph.add_all.Given as goal

abbrev pub invariant-loop-node : goal.invariant-loop-node
invariant-loop-node l = record {
  added : add_all nat_eq l.found.nodes (drop l.node-index l.nodes) ≡ add_all nat_eq l.initial.found.nodes l.nodes;
  marked : AreMarked l.found.marks.items l.found.nodes;
}
