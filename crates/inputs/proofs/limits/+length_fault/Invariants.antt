use Rattle.std.proofs.Common.{length}
use Rattle.inputs.proofs.limits.+length_fault.Given as goal

abbrev pub decreases-length_fault : goal.decreases-length_fault
decreases-length_fault l = length l.files.now
