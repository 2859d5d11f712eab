use Rattle.std.proofs.Common.{◌≡◌, ◌+◌, drop}
use Rattle.descriptor_file.specs.Values.{up_to}
use Rattle.descriptor_file.proofs.values.up_to.Given as goal

abbrev pub invariant-loop-i : goal.invariant-loop-i
invariant-loop-i l = up_to l.byte l.bytes ≡ l.i + up_to l.byte (drop l.i l.bytes)
