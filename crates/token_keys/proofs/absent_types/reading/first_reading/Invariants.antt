use Rattle.std.proofs.Common.{◌≡◌, drop}
use Rattle.rules.specs.merge_rules.Absent.{reads_same}
use Rattle.token_keys.specs.absent_types.Named.{first_placed}
use Rattle.token_keys.proofs.absent_types.reading.first_reading.Given as goal

abbrev pub invariant-loop-placed : goal.invariant-loop-placed
invariant-loop-placed l =
    first_placed (reads_same l.index.all.now l.most l.at) (drop l.placed-index l.rows) ≡ first_placed (reads_same l.index.all.now l.most l.at) l.rows
