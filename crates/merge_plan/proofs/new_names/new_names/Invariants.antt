use Rattle.std.proofs.Common.{◌≡◌, [], map, drop}
use Rattle.merge_plan.specs.OldNames.{types_of}
use Rattle.merge_plan.specs.Contests.{names_by}
use Rattle.merge_plan.specs.Renamed.{new_name}
use Rattle.merge_plan.specs.Taken.{AreTaken}
use Rattle.merge_plan.proofs.new_names.new_names.Given as goal

abbrev pub invariant-loop-contest : goal.invariant-loop-contest
invariant-loop-contest l = record {
  taken : AreTaken l.index.all.now (types_of l.kept) (map new_name l.found.items) l.taken;
  names : names_by l.index.all.now (types_of l.kept) (map new_name l.found.items) (drop l.contest-index l.contests) ≡ names_by l.index.all.now (types_of l.kept) [] l.contests;
}
