use Rattle.std.proofs.Common.{◌≡◌, ◌++◌, drop}
use Rattle.rules.specs.link_rules.Faults.{numbered}
use Rattle.link_faults.specs.Supertypes.{nothing_of}
use Rattle.link_faults.proofs.interface_rows.nothing_of.Given as goal

abbrev pub invariant-loop-row : goal.invariant-loop-row
invariant-loop-row l = l.graph.items ++ numbered nothing_of l._row-index (drop l._row-index l._row-items) ≡ numbered nothing_of 0 l._row-items
