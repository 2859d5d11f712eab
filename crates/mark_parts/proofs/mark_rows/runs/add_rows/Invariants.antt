use Rattle.std.proofs.Common.{◌≡◌, ◌-◌, ◌++◌, map}
use Rattle.std.specs.List.{range_with_len}
use Rattle.rules.specs.link_rules.Types.{at_row}
use Rattle.mark_parts.proofs.mark_rows.runs.add_rows.Given as goal

abbrev pub invariant-loop-row : goal.invariant-loop-row
invariant-loop-row l =
    l.rows.items ++ map (at_row l.asm) (range_with_len l.row (l.end - l.row)) ≡ l.initial.rows.items ++ map (at_row l.asm) (range_with_len l.start (l.end - l.start))
