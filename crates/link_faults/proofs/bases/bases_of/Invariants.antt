use Rattle.std.proofs.Common.{◌≡◌, ◌++◌, drop}
use Rattle.rules.specs.link_rules.Faults.{numbered}
use Rattle.link_faults.specs.Supertypes.{bases_of}
use Rattle.link_faults.proofs.bases.bases_of.Given as goal

abbrev pub invariant-loop-row : goal.invariant-loop-row
invariant-loop-row l =
    l.graph.items ++ numbered (bases_of l.scope.all.now l.scope.links.now l.asm.0) l.row-index (drop l.row-index l.row-items)
    ≡ numbered (bases_of l.scope.all.now l.scope.links.now l.asm.0) 0 l.row-items
