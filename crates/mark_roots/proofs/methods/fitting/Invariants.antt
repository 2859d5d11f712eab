use Rattle.std.proofs.Common.{◌≡◌, ◌++◌, drop}
use Rattle.std.specs.List.{filter}
use Rattle.rules.specs.mark_rules.Roots.{fits_method}
use Rattle.mark_roots.specs.Lookups.{recs_in}
use Rattle.mark_roots.proofs.methods.fitting.Given as goal

abbrev pub invariant-loop-at : goal.invariant-loop-at
invariant-loop-at l = l.found.items ++ filter (fits_method (recs_in l.lookup) l.r l.t) (drop l.at-index l.rows) ≡ filter (fits_method (recs_in l.lookup) l.r l.t) l.rows
