use Rattle.std.proofs.Common.{◌≡◌, ◌++◌, drop}
use Rattle.std.specs.List.{flat_map}
use Rattle.link_faults.specs.Values.{held_in}
use Rattle.link_faults.proofs.held.+holding.Given as goal

abbrev pub invariant-add_all_held-loop-ty : goal.invariant-add_all_held-loop-ty
invariant-add_all_held-loop-ty l = l.held ++ flat_map (held_in l.values) (drop l.ty-index l.types) ≡ l.initial.held ++ flat_map (held_in l.values) l.types
