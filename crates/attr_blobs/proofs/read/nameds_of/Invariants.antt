use Rattle.std.proofs.Common.{◌≡◌, ◌-◌}
use Rattle.attr_blobs.specs.Values.{nameds_at, named_at}
use Rattle.attr_blobs.proofs.Opened.{with_named}
use Rattle.attr_blobs.proofs.read.nameds_of.Given as goal

abbrev pub invariant-loop : goal.invariant-loop
invariant-loop l = with_named l.named (nameds_at (named_at l.enums) (l.count - l.counter) l.rest) ≡ nameds_at (named_at l.enums) l.count l.bytes
