use Rattle.std.proofs.Common.{◌≡◌, ◌++◌, drop}
use Rattle.rules.specs.file_layout.TableStream.{counts_bytes}
use Rattle.record_writer.proofs.metadata_writer.tables.put_counts.Given as goal

abbrev pub invariant-loop-rows : goal.invariant-loop-rows
invariant-loop-rows l = l.out.items ++ counts_bytes (drop l.rows-index l.tables) ≡ l.initial.out.items ++ counts_bytes l.tables
