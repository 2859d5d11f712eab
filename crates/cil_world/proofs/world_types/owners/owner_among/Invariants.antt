use Rattle.std.proofs.Common.{◌≡◌, drop}
use Rattle.rules.specs.view_rules.Answers.{owner_among}
use Rattle.cil_world.proofs.world_types.owners.owner_among.Given as goal

abbrev pub invariant-loop-ty : goal.invariant-loop-ty
invariant-loop-ty l = owner_among l.all l.owner (drop l.ty-index l.types) ≡ owner_among l.all l.owner l.types
