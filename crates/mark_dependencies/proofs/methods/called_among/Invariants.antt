use Rattle.std.proofs.Common.{◌≡◌, ◌++◌, drop}
use Rattle.std.specs.List.{filter}
use Rattle.rules.specs.mark_rules.Dependencies.{is_method_called}
use Rattle.mark_dependencies.specs.Lookups.{recs_in}
use Rattle.mark_dependencies.proofs.methods.called_among.Given as goal

abbrev pub invariant-loop-at : goal.invariant-loop-at
invariant-loop-at l = l.found.items ++ filter (is_method_called (recs_in l.lookup) l.name) (drop l.at-index l.rows) ≡ filter (is_method_called (recs_in l.lookup) l.name) l.rows
