use Rattle.std.proofs.Common.{◌≡◌, take, sum_by}
use Rattle.il_base.specs.world_model.Worlds.{types_in}
use Rattle.link_faults.proofs.scope.type_count.Given as goal

abbrev pub invariant-loop-rec : goal.invariant-loop-rec
invariant-loop-rec l = l.count ≡ sum_by types_in (take l.rec-index l.all)
