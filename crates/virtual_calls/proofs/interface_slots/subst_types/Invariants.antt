use Rattle.std.proofs.Common.{◌≡◌, [], ◌++◌, map, drop}
use Rattle.il_base.specs.world_model.Exprs.{subst}
use Rattle.virtual_calls.proofs.interface_slots.subst_types.Given as goal

abbrev pub invariant-loop-e : goal.invariant-loop-e
invariant-loop-e l = l.made ++ map (subst l.targs []) (drop l.e-index l.types) ≡ map (subst l.targs []) l.types
