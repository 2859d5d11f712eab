use Rattle.std.proofs.Common.{◌≡◌, drop}
use Rattle.link_faults.specs.Graphs.{goes_down}
use Rattle.link_faults.proofs.ranks.goes_down.Given as goal

abbrev pub invariant-loop-node : goal.invariant-loop-node
invariant-loop-node l = goes_down l.ranks l.node (drop l.node l.graph) ≡ goes_down l.ranks 0 l.graph
