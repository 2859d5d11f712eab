use Rattle.std.proofs.Common.{◌≡◌, drop}
use Rattle.attr_blobs.specs.Values.{fixed_at}
use Rattle.attr_blobs.proofs.Opened.{with_front}
use Rattle.attr_blobs.proofs.read.fixed_of.Given as goal

abbrev pub invariant-loop-kind : goal.invariant-loop-kind
invariant-loop-kind l = with_front l.args (fixed_at l.enums (drop l.kind-index l.params) l.rest) ≡ fixed_at l.enums l.params l.bytes
