use Rattle.std.proofs.Common.{◌≡◌, map, take}
use Rattle.rules.specs.file_layout.Cells.{number_of}
use Rattle.record_writer.specs.metadata_writer.Gathered.{pools}
use Rattle.record_writer.proofs.metadata_writer.numbers.row_numbers.Given as goal

abbrev pub invariant-loop-cell : goal.invariant-loop-cell
invariant-loop-cell l = l.numbers ≡ map (number_of (pools l.places.pools.now)) (take l.cell-index l.row)
