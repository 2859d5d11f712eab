use Rattle.std.proofs.Common.{◌≡◌, ◌++◌, drop}
use Rattle.rules.specs.file_layout.TableStream.{tables_bytes}
use Rattle.record_writer.proofs.metadata_writer.rows.put_tables.Given as goal

abbrev pub invariant-loop-t : goal.invariant-loop-t
invariant-loop-t l = l.out.items ++ tables_bytes l.sizes l.tables l.t (drop l.t l.tables) ≡ l.initial.out.items ++ tables_bytes l.sizes l.tables 0 l.tables
