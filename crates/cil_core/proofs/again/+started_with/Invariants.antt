use Rattle.std.proofs.Common.{length}
use Rattle.cil_core.proofs.again.+started_with.Given as goal

abbrev pub decreases-started_with : goal.decreases-started_with
decreases-started_with g l = length l.back.now
