use Rattle.std.proofs.Common.{◌≡◌, drop}
use Rattle.rules.specs.link_rules.Faults.{first_of, cyclic_nesting_row}
use Rattle.link_faults.proofs.nesting.cyclic_row.Given as goal

abbrev pub invariant-loop-at : goal.invariant-loop-at
invariant-loop-at l = first_of (cyclic_nesting_row l.rec l.file) l.at (drop l.at l.row-items) ≡ first_of (cyclic_nesting_row l.rec l.file) 0 l.row-items
