use Rattle.std.proofs.Common.{◌≡◌, ◌+◌, ◌<◌, ◌^◌, drop}
use Rattle.rules.specs.file_layout.TableStream.{valid_bits}
use Rattle.record_writer.proofs.metadata_writer.tables.valid_bits.Given as goal

abbrev pub invariant-loop-t : goal.invariant-loop-t
invariant-loop-t l = record {
  sum : l.bits + valid_bits l.t (drop l.t l.tables) ≡ valid_bits 0 l.tables;
  small : l.bits < 2 ^ l.t;
}
