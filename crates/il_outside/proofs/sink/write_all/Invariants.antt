use Rattle.std.proofs.Common.{◌≡◌, ◌≤◌, ◌-◌, length, take}
use Rattle.std.specs.Io.KnownBytes.{Appends}
use Rattle.il_outside.proofs.sink.write_all.Given as goal

abbrev pub invariant-loop-at : goal.invariant-loop-at
invariant-loop-at g l = record {
  within : l.at ≤ length l.bytes;
  held : Appends (g.S.Sink.state l.initial.sink).held (g.S.Sink.state l.sink).held (take l.at l.bytes);
  faults : (g.S.Sink.state l.sink).faults ≡ (g.S.Sink.state l.initial.sink).faults;
}

abbrev pub decreases-loop-at : goal.decreases-loop-at
decreases-loop-at g l = length l.bytes - l.at
