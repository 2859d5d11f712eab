use Rattle.std.proofs.Common.{◌≡◌, ◌++◌, drop}
use Rattle.token_keys.specs.absent_types.Rows.{rows_from}
use Rattle.token_keys.proofs.absent_types.rows.reference_rows.Given as goal

abbrev pub invariant-loop-a : goal.invariant-loop-a
invariant-loop-a l = l.rows.items ++ rows_from l.a (drop l.a l.rec-items) ≡ rows_from 0 l.rec-items
