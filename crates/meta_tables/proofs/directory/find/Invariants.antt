-- None of the streams so far has the name.
use Rattle.std.proofs.Common.{◌≡◌, drop}
use Rattle.il_base.specs.cli_format.Streams.{stream_called}
use Rattle.meta_tables.proofs.directory.find.Given as goal

abbrev pub invariant-loop-stream : goal.invariant-loop-stream
invariant-loop-stream l = stream_called l.name (drop l.stream-index l.list) ≡ stream_called l.name l.list
