use Rattle.std.proofs.Common.{◌≡◌, ◌-◌}
use Rattle.rules.specs.link_rules.Members.{bases_from}
use Rattle.type_tables.specs.member_search.Wanted.{look_for}
use Rattle.rules.specs.type_rules.Slots.{nearest}
use Rattle.virtual_calls.proofs.nearest.nearest_match.Given as goal

abbrev pub invariant-loop : goal.invariant-loop
invariant-loop l =
    nearest (look_for l.tables.world.now.recs l.name l.wanted) (bases_from l.tables.world.now.recs (l.count - l.counter) l.ty)
    ≡ nearest (look_for l.tables.world.now.recs l.name l.wanted) (bases_from l.tables.world.now.recs l.count l.fn.start)
