use Rattle.std.proofs.Common.{drop}
use Rattle.record_writer.proofs.lemmas.metadata_writer.Gathering.{Left}
use Rattle.record_writer.proofs.metadata_writer.pools.add_row.Given as goal

abbrev pub invariant-loop-cell : goal.invariant-loop-cell
invariant-loop-cell l = Left (λ items cell. items cell) (drop l.cell-index l.row) l.row l.initial.pools l.pools
