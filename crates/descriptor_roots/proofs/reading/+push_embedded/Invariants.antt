use Rattle.std.proofs.Common.{length}
use Rattle.descriptor_roots.proofs.reading.+push_embedded.Given as goal

abbrev pub decreases-push_embedded : goal.decreases-push_embedded
decreases-push_embedded l = length l.inputs.now
