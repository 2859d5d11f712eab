use Rattle.std.proofs.Common.{take}
use Rattle.cil_world.specs.world_methods.Places.{HavePlaces}
use Rattle.cil_world.proofs.world_methods.methods.places_of.Given as goal

abbrev pub invariant-loop-m : goal.invariant-loop-m
invariant-loop-m l = HavePlaces (take l.m-index l.rows) l.places.items
