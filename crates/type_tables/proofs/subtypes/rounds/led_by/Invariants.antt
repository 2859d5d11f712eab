use Rattle.std.proofs.Common.{◌≡◌, ◌++◌, drop}
use Rattle.std.specs.List.{flat_map}
use Rattle.type_tables.specs.subtypes.Steps.{next_by}
use Rattle.type_tables.proofs.subtypes.rounds.led_by.Given as goal

abbrev pub invariant-loop-ty : goal.invariant-loop-ty
invariant-loop-ty l = l.led.items ++ flat_map (next_by l.tables.world.now.recs l.step) (drop l.ty-index l.types) ≡ flat_map (next_by l.tables.world.now.recs l.step) l.types
