-- What is made and what the rest of both lists gives are what both give.
use Rattle.std.proofs.Common.{◌≡◌, ◌+◌, ◌++◌, None, length}
use Rattle.pe_image.specs.Stretches.{overlay}
use Rattle.pe_image.proofs.stretches.overlay.Given as goal

abbrev pub invariant-loop-stretch : goal.invariant-loop-stretch
invariant-loop-stretch l = l.all.items ++ overlay l.rest.above l.rest.upper.now l.rest.below l.rest.lower.now ≡ overlay None l.upper None l.lower

abbrev pub decreases-loop-stretch : goal.decreases-loop-stretch
decreases-loop-stretch l = length l.rest.upper.now + length l.rest.lower.now
