use Rattle.std.proofs.Common.{◌≡◌, ◌++◌, drop}
use Rattle.std.specs.List.{flat_map}
use Rattle.record_writer.specs.metadata_writer.Cells.{cells_bytes}
use Rattle.record_writer.proofs.metadata_writer.rows.put_rows.Given as goal

abbrev pub invariant-loop-row : goal.invariant-loop-row
invariant-loop-row l = l.out.items ++ flat_map (cells_bytes l.widths) (drop l.row-index l.rows) ≡ l.initial.out.items ++ flat_map (cells_bytes l.widths) l.rows
