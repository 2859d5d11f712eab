use Rattle.std.proofs.Common.{◌≡◌, ◌++◌, drop}
use Rattle.std.specs.List.{filter}
use Rattle.rules.specs.mark_rules.Members.{method_counts, has_method_row}
use Rattle.mark_members.proofs.mark_kinds.methods.add_counted.Given as goal

abbrev pub invariant-loop-at : goal.invariant-loop-at
invariant-loop-at l =
    l.found.items ++ filter (has_method_row l.all (method_counts l.own l.two)) (drop l.at-index l.rows)
    ≡ l.initial.found.items ++ filter (has_method_row l.all (method_counts l.own l.two)) l.rows
