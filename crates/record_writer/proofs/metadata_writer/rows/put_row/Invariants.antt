use Rattle.std.proofs.Common.{◌≡◌, ◌++◌, drop}
use Rattle.record_writer.specs.metadata_writer.Cells.{cells_bytes}
use Rattle.record_writer.proofs.metadata_writer.rows.put_row.Given as goal

abbrev pub invariant-loop-i : goal.invariant-loop-i
invariant-loop-i l = l.out.items ++ cells_bytes (drop l.i l.widths) (drop l.i l.row) ≡ l.initial.out.items ++ cells_bytes l.widths l.row
