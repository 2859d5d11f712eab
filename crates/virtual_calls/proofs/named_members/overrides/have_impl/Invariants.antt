use Rattle.std.proofs.Common.{◌≡◌, drop}
use Rattle.std.specs.List.{list_any}
use Rattle.rules.specs.type_rules.Searches.{has_impl}
use Rattle.virtual_calls.proofs.named_members.overrides.have_impl.Given as goal

abbrev pub invariant-loop-ty : goal.invariant-loop-ty
invariant-loop-ty l = list_any (has_impl l.tables.world.now.recs l.body l.slot) (drop l.ty-index l.types) ≡ list_any (has_impl l.tables.world.now.recs l.body l.slot) l.types
