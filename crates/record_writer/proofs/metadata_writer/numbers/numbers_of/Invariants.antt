use Rattle.std.proofs.Common.{◌≡◌, map, take}
use Rattle.record_writer.specs.metadata_writer.Gathered.{pools}
use Rattle.record_writer.specs.metadata_writer.Numbers.{rows_numbers}
use Rattle.record_writer.proofs.metadata_writer.numbers.numbers_of.Given as goal

abbrev pub invariant-loop-rows : goal.invariant-loop-rows
invariant-loop-rows l = l.numbers ≡ map (rows_numbers (pools l.places.pools.now)) (take l.rows-index l.tables)
