-- The bytes so far are zeros, so all are where the others are.
use Rattle.std.proofs.Common.{◌≡◌, drop}
use Rattle.il_base.specs.cli_format.Streams.{zeros}
use Rattle.meta_tables.proofs.streams.are_zeros.Given as goal

abbrev pub invariant-loop-b : goal.invariant-loop-b
invariant-loop-b l = zeros (drop l.b-index l.bytes) ≡ zeros l.bytes
