use Rattle.std.proofs.Common.{drop}
use Rattle.std.specs.List.{flat_map}
use Rattle.record_writer.proofs.lemmas.metadata_writer.Gathering.{Left}
use Rattle.record_writer.proofs.metadata_writer.pools.add_tables.Given as goal

abbrev pub invariant-loop-rows : goal.invariant-loop-rows
invariant-loop-rows l = Left (λ items rows. flat_map (λ row. flat_map items row) rows) (drop l.rows-index l.tables) l.tables l.initial.pools l.pools
