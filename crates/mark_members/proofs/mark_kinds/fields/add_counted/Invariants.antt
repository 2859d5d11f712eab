use Rattle.std.proofs.Common.{◌≡◌, ◌++◌, drop}
use Rattle.std.specs.List.{filter}
use Rattle.rules.specs.mark_rules.Members.{has_field_row}
use Rattle.mark_members.specs.mark_kinds.Kinds.{field_counts}
use Rattle.mark_members.proofs.mark_kinds.fields.add_counted.Given as goal

abbrev pub invariant-loop-at : goal.invariant-loop-at
invariant-loop-at l =
    l.found.items ++ filter (has_field_row l.all (field_counts l.own l.two)) (drop l.at-index l.rows)
    ≡ l.initial.found.items ++ filter (has_field_row l.all (field_counts l.own l.two)) l.rows
