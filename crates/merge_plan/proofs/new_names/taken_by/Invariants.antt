use Rattle.std.proofs.Common.{[], take}
use Rattle.merge_plan.specs.OldNames.{types_of}
use Rattle.merge_plan.specs.Taken.{AreTaken}
use Rattle.merge_plan.proofs.new_names.taken_by.Given as goal

abbrev pub invariant-loop-old : goal.invariant-loop-old
invariant-loop-old l = AreTaken l.index.all.now (types_of (take l.old-index l.kept)) [] l.taken
