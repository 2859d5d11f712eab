use Rattle.std.proofs.Common.{◌≡◌, ◌++◌, drop}
use Rattle.std.specs.List.{flat_map}
use Rattle.link_faults.specs.Graphs.{next_in}
use Rattle.link_faults.proofs.graph.led_by.Given as goal

abbrev pub invariant-loop-node : goal.invariant-loop-node
invariant-loop-node l = l.led ++ flat_map (next_in l.graph) (drop l.node-index l.nodes) ≡ flat_map (next_in l.graph) l.nodes
