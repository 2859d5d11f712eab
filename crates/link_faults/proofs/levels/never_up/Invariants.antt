use Rattle.std.proofs.Common.{◌≡◌, drop}
use Rattle.link_faults.specs.Graphs.{never_up}
use Rattle.link_faults.proofs.levels.never_up.Given as goal

abbrev pub invariant-loop-node : goal.invariant-loop-node
invariant-loop-node l = never_up l.levels l.node (drop l.node l.graph) ≡ never_up l.levels 0 l.graph
