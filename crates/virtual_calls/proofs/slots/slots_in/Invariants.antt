use Rattle.std.proofs.Common.{◌≡◌}
use Rattle.virtual_calls.specs.Slots.{slots_in}
use Rattle.virtual_calls.proofs.slots.slots_in.Given as goal

abbrev pub invariant-loop-k : goal.invariant-loop-k
invariant-loop-k l = l.slots ≡ slots_in l.tables.world.now.recs l.asm l.k
