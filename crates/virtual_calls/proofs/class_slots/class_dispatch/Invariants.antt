use Rattle.std.proofs.Common.{◌≡◌, ◌-◌}
use Rattle.rules.specs.link_rules.Members.{bases_from}
use Rattle.rules.specs.type_rules.Slots.{nearest}
use Rattle.rules.specs.type_rules.Dispatch.{class_method_in}
use Rattle.virtual_calls.proofs.class_slots.class_dispatch.Given as goal

abbrev pub invariant-loop : goal.invariant-loop
invariant-loop l =
    nearest (class_method_in l.tables.world.now.recs l.slot) (bases_from l.tables.world.now.recs (l.count - l.counter) l.ty)
    ≡ nearest (class_method_in l.tables.world.now.recs l.slot) (bases_from l.tables.world.now.recs l.count l.fn.t)
