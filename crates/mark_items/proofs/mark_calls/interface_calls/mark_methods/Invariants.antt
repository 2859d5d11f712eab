use Rattle.std.proofs.Common.{◌≡◌, ◌++◌, map, drop}
use Rattle.rules.specs.mark_rules.Places.{marks_method}
use Rattle.mark_items.proofs.mark_calls.interface_calls.mark_methods.Given as goal

abbrev pub invariant-loop-at : goal.invariant-loop-at
invariant-loop-at l = l.facts ++ map (marks_method l.all) (drop l.at-index l.rows) ≡ l.initial.facts ++ map (marks_method l.all) l.rows
