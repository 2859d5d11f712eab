use Rattle.virtual_calls.proofs.Slotting.{slots_more}
use Rattle.virtual_calls.proofs.slots.slots_in.Goals as goal

pub loop-k-preserved : goal.loop-k-preserved
loop-k-preserved c =
    slots_more c.args.tables.now.world.now.recs c.args.asm c.loop-k.k c.in_ok-row.row c.loop-k.slots c.push.new.self c.in_ok-slot.slot c.loop-k.invariant c.in_ok-row.ensures c.in_ok-slot.ensures
    c.in_ok-push.ensures.ok
