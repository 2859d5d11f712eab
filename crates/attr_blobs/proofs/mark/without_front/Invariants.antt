use Rattle.std.proofs.Common.{◌≡◌, length}
use Rattle.attr_blobs.specs.TypeNames.{without_front}
use Rattle.attr_blobs.proofs.mark.without_front.Given as goal

abbrev pub invariant-loop-rest : goal.invariant-loop-rest
invariant-loop-rest l = without_front l.rest ≡ without_front l.marks

abbrev pub decreases-loop-rest : goal.decreases-loop-rest
decreases-loop-rest l = length l.rest
