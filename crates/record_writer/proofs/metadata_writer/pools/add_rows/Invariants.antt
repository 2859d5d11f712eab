use Rattle.std.proofs.Common.{drop}
use Rattle.std.specs.List.{flat_map}
use Rattle.record_writer.proofs.lemmas.metadata_writer.Gathering.{Left}
use Rattle.record_writer.proofs.metadata_writer.pools.add_rows.Given as goal

abbrev pub invariant-loop-row : goal.invariant-loop-row
invariant-loop-row l = Left (λ items row. flat_map items row) (drop l.row-index l.rows) l.rows l.initial.pools l.pools
