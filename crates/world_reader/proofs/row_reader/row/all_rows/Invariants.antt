-- The rows so far.
use Rattle.std.proofs.Common.{◌≡◌}
use Rattle.rules.specs.record_format.Cells.{first_rows}
use Rattle.world_reader.proofs.row_reader.row.all_rows.Given as goal

abbrev pub invariant-loop-i : goal.invariant-loop-i
invariant-loop-i g l = l.rows ≡ first_rows (g.R.Row.row_of l.file) l.i
