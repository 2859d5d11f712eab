-- The streams so far are those before the counter, their bytes are taken, and the next header is where they end.
use Rattle.std.proofs.Common.{◌≡◌, ◌≤◌, length, None}
use Rattle.il_base.specs.cli_format.Demand.{first_fault, each_below}
use Rattle.il_base.specs.cli_format.Streams.{streams_before, header_place}
use Rattle.il_base.specs.cli_format.Metadata.{nth_stream_demands}
use Rattle.meta_tables.specs.Held.{AreTaken}
use Rattle.meta_tables.proofs.directory.read_list.Given as goal

abbrev pub invariant-loop : goal.invariant-loop
invariant-loop l = record {
  held : first_fault (each_below (nth_stream_demands l.bytes l.base) l.counter) ≡ None;
  listed : l.list ≡ streams_before l.bytes l.counter;
  place : l.at ≡ header_place l.bytes l.counter;
  within : l.at ≤ length l.bytes;
  size : length l.taken.items ≡ length l.bytes;
  taken : AreTaken l.list l.taken.items;
}
