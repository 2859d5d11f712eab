use Rattle.std.proofs.Common.{◌≡◌, ◌≤◌, length, take}
use Rattle.attr_blobs.specs.TypeNames.{without_end}
use Rattle.attr_blobs.proofs.mark.without_end.Given as goal

abbrev pub invariant-loop-n : goal.invariant-loop-n
invariant-loop-n l = record {
  within : l.n ≤ length l.marks;
  same : without_end (take l.n l.marks) ≡ without_end l.marks;
}

abbrev pub decreases-loop-n : goal.decreases-loop-n
decreases-loop-n l = l.n
