use Rattle.std.proofs.Common.{drop}
use Rattle.link_faults.specs.Nesting.{IsAround}
use Rattle.link_faults.proofs.nesting.enclosers_by.Given as goal

abbrev pub invariant-loop-at : goal.invariant-loop-at
invariant-loop-at l = IsAround (drop l.at l.rows) l.graph.items
