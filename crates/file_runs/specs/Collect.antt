-- A sink in memory tells all that it holds, and never fails.
use Rattle.std.specs.Prelude.{Some}
use Rattle.il_outside.specs.Streams.{SinkState}
use Rattle.file_runs.specs.declared.collect.Collected.{Collected}

abbrev pub collected : Collected → SinkState
collected c = record { held = Some c.bytes.items; faults = 0 }
