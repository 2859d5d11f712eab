use Rattle.std.proofs.Common.{◌≡◌, ◌++◌, drop}
use Rattle.std.specs.List.{filter}
use Rattle.rules.specs.mark_rules.Members.{nested_counts}
use Rattle.mark_members.proofs.nested.counted.Given as goal

abbrev pub invariant-loop-at : goal.invariant-loop-at
invariant-loop-at l = l.found.items ++ filter (nested_counts l.all l.kinds) (drop l.at-index l.rows) ≡ filter (nested_counts l.all l.kinds) l.rows
