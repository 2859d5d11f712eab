use Rattle.std.proofs.Common.{◌≡◌, map, take}
use Rattle.rules.specs.file_layout.Cells.{number_of}
use Rattle.record_writer.specs.metadata_writer.Gathered.{pools}
use Rattle.record_writer.proofs.metadata_writer.numbers.table_numbers.Given as goal

abbrev pub invariant-loop-row : goal.invariant-loop-row
invariant-loop-row l = l.table ≡ map (λ row. map (number_of (pools l.places.pools.now)) row) (take l.row-index l.rows)
