use Rattle.std.proofs.Common.{◌≡◌, ◌++◌, [], take, drop}
use Rattle.merge_plan.specs.OldNames.{types_of}
use Rattle.merge_plan.specs.Rivals.{AreNamed}
use Rattle.merge_plan.specs.Contests.{contests_from}
use Rattle.merge_plan.proofs.contests.contests.Given as goal

abbrev pub invariant-loop-old : goal.invariant-loop-old
invariant-loop-old l = record {
  named : AreNamed l.index.all.now (types_of (take l.old-index l.kept)) l.earlier;
  found : l.found.items ++ contests_from l.index.all.now (types_of (take l.old-index l.kept)) (types_of (drop l.old-index l.kept)) ≡ contests_from l.index.all.now [] (types_of l.kept);
}
