use Rattle.std.proofs.Common.{◌≡◌, map, take}
use Rattle.il_base.specs.cli_format.Columns.{columns_of}
use Rattle.rules.specs.record_layout.Values.{row_cells}
use Rattle.record_writer.proofs.row_writer.row.table.Given as goal

abbrev pub invariant-loop-row : goal.invariant-loop-row
invariant-loop-row g l = l.cells ≡ map (row_cells (columns_of g.R.Row.TABLE)) (map g.R.Row.values_of (take l.row-index l.rows))
