use Rattle.std.proofs.Common.{◌≡◌, ◌-◌}
use Rattle.rules.specs.merge_rules.Absent.{reads_same}
use Rattle.token_keys.proofs.absent_types.reading.reads_same.Given as goal

abbrev pub invariant-loop-k : goal.invariant-loop-k
invariant-loop-k l = reads_same l.index.all.now (l.most - l.k) l.row l.other ≡ reads_same l.index.all.now l.most l.fn.x l.fn.y
