use Rattle.std.proofs.Common.{drop}
use Rattle.link_faults.specs.Owners.{OwnsFrom}
use Rattle.link_faults.proofs.owners.owners.Given as goal

abbrev pub invariant-loop-at : goal.invariant-loop-at
invariant-loop-at l = OwnsFrom l.kind l.at (drop l.at l.types) l.rows l.owners.items
