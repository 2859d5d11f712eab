use Rattle.std.proofs.Common.{◌≡◌, map, take}
use Rattle.rules.specs.merge_rules.Keys.{made_sig}
use Rattle.token_keys.proofs.made.+making.Given as goal

abbrev pub invariant-made_sigs-loop-ty : goal.invariant-made_sigs-loop-ty
invariant-made_sigs-loop-ty l = l.made ≡ map (made_sig l.tables.world.now.recs) (take l.ty-index l.types)
