use Rattle.std.proofs.Common.{◌≡◌, ◌++◌, length}
use Rattle.mark_members.specs.Levels.{pushed}
use Rattle.mark_members.proofs.levels.push_levels.Given as goal

abbrev pub invariant-loop-left : goal.invariant-loop-left
invariant-loop-left l = l.waiting ++ pushed l.levels l.left ≡ l.initial.waiting ++ pushed l.levels l.fn.rows

abbrev pub decreases-loop-left : goal.decreases-loop-left
decreases-loop-left l = length l.left
