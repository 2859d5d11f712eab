use Rattle.std.proofs.Common.{◌≡◌, ◌++◌}
use Rattle.rules.specs.record_layout.Values.{row_cells}
use Rattle.record_writer.proofs.row_writer.cells.row_cells.Given as goal

abbrev pub invariant-loop-value : goal.invariant-loop-value
invariant-loop-value l = l.cells ++ row_cells l.rest l.value-iterator.rest.items ≡ row_cells l.columns l.fn.values
