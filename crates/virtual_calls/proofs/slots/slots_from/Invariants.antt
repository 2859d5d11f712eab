use Rattle.std.proofs.Common.{◌≡◌, ◌++◌, drop}
use Rattle.virtual_calls.specs.Slots.{slots_from}
use Rattle.virtual_calls.proofs.slots.slots_from.Given as goal

abbrev pub invariant-loop-a : goal.invariant-loop-a
invariant-loop-a l =
    l.rows ++ slots_from l.tables.world.now.recs l.a (drop l.a l.tables.world.now.recs)
    ≡ slots_from l.tables.world.now.recs 0 l.tables.world.now.recs
