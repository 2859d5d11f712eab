use Rattle.std.proofs.Common.{◌≡◌, ◌++◌, map, drop}
use Rattle.il_base.specs.cli_format.Columns.{columns_of}
use Rattle.rules.specs.record_layout.Tables.{with_rvas}
use Rattle.rules.specs.record_layout.Values.{row_cells}
use Rattle.record_writer.proofs.row_writer.placed.placed_table.Given as goal

abbrev pub invariant-loop-row : goal.invariant-loop-row
invariant-loop-row g l =
    l.cells ++ map (row_cells (columns_of g.R.Placed.TABLE)) (with_rvas g.R.Placed.values_of l.rest (drop l.row-index l.rows))
    ≡ map (row_cells (columns_of g.R.Placed.TABLE)) (with_rvas g.R.Placed.values_of l.rvas l.rows)
