use Rattle.std.proofs.Common.{◌≡◌, ◌+◌, ◌≤◌, min, drop, sum_by}
use Rattle.il_base.specs.world_model.Worlds.{types_in}
use Rattle.il_base.proofs.world_model.prims.count_types.Given as goal

abbrev pub invariant-loop-rec : goal.invariant-loop-rec
invariant-loop-rec l = (l.count ≤ 18446744073709551615) × (min (l.count + sum_by types_in (drop l.rec-index l.recs)) 18446744073709551615 ≡ min (sum_by types_in l.recs) 18446744073709551615)
