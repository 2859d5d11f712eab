use Rattle.std.proofs.Common.{◌≡◌, ◌++◌, map, drop}
use Rattle.rules.specs.link_rules.Types.{at_row}
use Rattle.virtual_calls.specs.named_members.Runs.{before_end}
use Rattle.virtual_calls.proofs.named_members.runs.before_end.Given as goal

abbrev pub invariant-loop-row : goal.invariant-loop-row
invariant-loop-row l = l.found.items ++ map (at_row l.asm) (before_end l.end (drop l.row-index l.rows)) ≡ map (at_row l.asm) (before_end l.end l.rows)
