use Rattle.std.proofs.Common.{◌≡◌, ◌++◌, drop}
use Rattle.std.specs.List.{filter}
use Rattle.rules.specs.mark_rules.Members.{constructor_counts, has_method_row}
use Rattle.mark_members.proofs.mark_kinds.methods.constructors_among.Given as goal

abbrev pub invariant-loop-at : goal.invariant-loop-at
invariant-loop-at l =
    l.found.items ++ filter (has_method_row l.all (constructor_counts l.kinds)) (drop l.at-index l.rows) ≡ filter (has_method_row l.all (constructor_counts l.kinds)) l.rows
