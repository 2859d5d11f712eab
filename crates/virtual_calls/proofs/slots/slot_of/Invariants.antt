use Rattle.std.proofs.Common.{◌≡◌, ◌-◌}
use Rattle.rules.specs.type_rules.Slots.{slot_within}
use Rattle.virtual_calls.proofs.slots.slot_of.Given as goal

abbrev pub invariant-loop : goal.invariant-loop
invariant-loop l = slot_within l.tables.world.now.recs (l.most - l.counter) l.at ≡ slot_within l.tables.world.now.recs l.most l.fn.at
