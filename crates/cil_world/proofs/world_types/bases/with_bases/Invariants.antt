use Rattle.std.proofs.Common.{◌≡◌, ◌-◌, ◌++◌}
use Rattle.rules.specs.link_rules.Members.{bases_from}
use Rattle.cil_world.proofs.world_types.bases.with_bases.Given as goal

abbrev pub invariant-loop : goal.invariant-loop
invariant-loop l = l.types.items ++ bases_from l.tables.world.now.recs (l.count - l.counter) l.ty ≡ bases_from l.tables.world.now.recs l.count l.start
