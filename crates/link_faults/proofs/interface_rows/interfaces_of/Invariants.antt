use Rattle.std.proofs.Common.{◌≡◌, take}
use Rattle.rules.specs.link_rules.Faults.{numbered}
use Rattle.link_faults.specs.Supertypes.{interfaces_of}
use Rattle.link_faults.proofs.interface_rows.interfaces_of.Given as goal

abbrev pub invariant-loop-row : goal.invariant-loop-row
invariant-loop-row l = l.graph.items ≡ numbered (interfaces_of l.scope.all.now l.scope.links.now l.flags l.asm.0 (take l.row-index l.row-items)) 0 l.rec.type_def
