use Rattle.std.proofs.Common.{◌≡◌, drop}
use Rattle.rules.specs.view_rules.Answers.{nearest_core}
use Rattle.cil_world.proofs.world_types.kin.nearest_core.Given as goal

abbrev pub invariant-loop-ty : goal.invariant-loop-ty
invariant-loop-ty l = nearest_core l.all (drop l.ty-index l.types) ≡ nearest_core l.all l.types
