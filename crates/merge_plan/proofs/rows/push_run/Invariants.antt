use Rattle.std.proofs.Common.{◌≡◌, ◌+◌, ◌-◌, ◌++◌, map}
use Rattle.std.specs.List.{range_with_len}
use Rattle.rules.specs.link_rules.Types.{at_row}
use Rattle.merge_plan.proofs.rows.push_run.Given as goal

abbrev pub invariant-loop-k : goal.invariant-loop-k
invariant-loop-k l = l.rows.items ++ map (at_row l.asm) (range_with_len (l.start + l.k) (l.count - l.k)) ≡ l.initial.rows.items ++ map (at_row l.asm) (range_with_len l.start l.count)
