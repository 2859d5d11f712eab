use Rattle.std.proofs.Common.{◌≡◌, ◌++◌, map, drop}
use Rattle.rules.specs.mark_rules.Places.{marks_field}
use Rattle.mark_members.proofs.mark_whole.members.mark_fields.Given as goal

abbrev pub invariant-loop-at : goal.invariant-loop-at
invariant-loop-at l = l.facts ++ map (marks_field l.all) (drop l.at-index l.rows) ≡ l.initial.facts ++ map (marks_field l.all) l.rows
