use Rattle.std.proofs.Common.{◌≡◌, ◌-◌}
use Rattle.rules.specs.link_rules.Members.{bases_from}
use Rattle.rules.specs.type_rules.Slots.{nearest}
use Rattle.rules.specs.type_rules.Dispatch.{choice_in}
use Rattle.virtual_calls.proofs.interface_slots.nearest_choice.Given as goal

abbrev pub invariant-loop : goal.invariant-loop
invariant-loop l =
    nearest (choice_in l.tables.world.now.recs l.wanted) (bases_from l.tables.world.now.recs (l.count - l.counter) l.ty)
    ≡ nearest (choice_in l.tables.world.now.recs l.wanted) (bases_from l.tables.world.now.recs l.count l.fn.t)
