use Rattle.std.proofs.Common.{◌≡◌, ◌++◌, map, drop}
use Rattle.mark_dependencies.specs.Names.{marks_item}
use Rattle.mark_dependencies.proofs.called.mark_rows.Given as goal

abbrev pub invariant-loop-at : goal.invariant-loop-at
invariant-loop-at l = l.facts ++ map (marks_item l.all l.kind) (drop l.at-index l.rows) ≡ l.initial.facts ++ map (marks_item l.all l.kind) l.rows
