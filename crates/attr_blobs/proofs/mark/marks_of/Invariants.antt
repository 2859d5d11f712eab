use Rattle.std.proofs.Common.{◌≡◌, ◌++◌, length}
use Rattle.attr_blobs.specs.TypeNames.{marks}
use Rattle.attr_blobs.proofs.mark.marks_of.Given as goal

abbrev pub invariant-loop-rest : goal.invariant-loop-rest
invariant-loop-rest l = l.found.items ++ marks l.rest ≡ marks l.letters

abbrev pub decreases-loop-rest : goal.decreases-loop-rest
decreases-loop-rest l = length l.rest
