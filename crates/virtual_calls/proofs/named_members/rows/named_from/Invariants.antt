use Rattle.std.proofs.Common.{◌≡◌, ◌-◌, ◌++◌}
use Rattle.virtual_calls.specs.named_members.Kinds.{named_from}
use Rattle.virtual_calls.proofs.named_members.rows.named_from.Given as goal

abbrev pub invariant-loop-row : goal.invariant-loop-row
invariant-loop-row l = l.found.items ++ named_from l.kind l.rec l.asm l.wanted l.row (l.end - l.row) ≡ named_from l.kind l.rec l.asm l.wanted l.start (l.end - l.start)
