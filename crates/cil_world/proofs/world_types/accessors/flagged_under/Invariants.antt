use Rattle.std.proofs.Common.{◌≡◌, ◌++◌, drop}
use Rattle.std.specs.List.{flat_map}
use Rattle.cil_world.specs.world_types.Accessors.{flagged_at}
use Rattle.cil_world.proofs.world_types.accessors.flagged_under.Given as goal

abbrev pub invariant-loop-k : goal.invariant-loop-k
invariant-loop-k l = l.found.items ++ flat_map (flagged_at l.flag l.rec) (drop l.k-index l.rows) ≡ flat_map (flagged_at l.flag l.rec) l.rows
