use Rattle.std.proofs.Common.{◌≡◌, map, take}
use Rattle.merge_plan.specs.Plans.{named}
use Rattle.merge_plan.specs.Renamed.{new_name}
use Rattle.merge_plan.proofs.planning.all_named.Given as goal

abbrev pub invariant-loop-one : goal.invariant-loop-one
invariant-loop-one l = l.names ≡ map (named l.recs) (map new_name (take l.one-index l.renamed))
