use Rattle.std.proofs.Common.{length}
use Rattle.descriptor_roots.proofs.reading.+within_length.Given as goal

abbrev pub decreases-within_length : goal.decreases-within_length
decreases-within_length l = length l.descriptors.now
