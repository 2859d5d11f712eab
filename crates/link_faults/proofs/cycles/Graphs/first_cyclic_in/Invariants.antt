use Rattle.std.proofs.Common.{◌≡◌, drop}
use Rattle.rules.specs.link_rules.Faults.{first_of, cyclic_type}
use Rattle.link_faults.proofs.cycles.Graphs.first_cyclic_in.Given as goal

abbrev pub invariant-loop-at : goal.invariant-loop-at
invariant-loop-at l = first_of (cyclic_type l.scope.all.now l.file) l.at (drop l.at l._row-items) ≡ first_of (cyclic_type l.scope.all.now l.file) 0 l._row-items
