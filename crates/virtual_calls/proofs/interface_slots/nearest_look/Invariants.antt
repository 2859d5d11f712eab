use Rattle.std.proofs.Common.{◌≡◌, ◌-◌}
use Rattle.rules.specs.link_rules.Members.{bases_from}
use Rattle.rules.specs.type_rules.Slots.{nearest}
use Rattle.virtual_calls.specs.Interfaces.{interface_look}
use Rattle.virtual_calls.proofs.interface_slots.nearest_look.Given as goal

abbrev pub invariant-loop : goal.invariant-loop
invariant-loop l =
    nearest (interface_look l.tables.world.now.recs l.slot l.instance l.name l.wanted) (bases_from l.tables.world.now.recs (l.count - l.counter) l.ty)
    ≡ nearest (interface_look l.tables.world.now.recs l.slot l.instance l.name l.wanted) (bases_from l.tables.world.now.recs l.count l.fn.start)
