use Rattle.std.proofs.Common.{◌≡◌, ◌++◌, drop}
use Rattle.rules.specs.link_rules.Faults.{numbered}
use Rattle.link_faults.specs.Values.{held_by}
use Rattle.link_faults.proofs.held.add_assembly.Given as goal

abbrev pub invariant-loop-at : goal.invariant-loop-at
invariant-loop-at l =
    l.graph.items ++ numbered (held_by l.scope.all.now l.scope.links.now l.values l.asm.0 l.rec) l.at (drop l.at l.row-items)
    ≡ l.initial.graph.items ++ numbered (held_by l.scope.all.now l.scope.links.now l.values l.asm.0 l.rec) 0 l.row-items
