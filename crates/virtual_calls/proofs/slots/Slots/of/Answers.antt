use Rattle.virtual_calls.proofs.Slotting.{are_slots}
use Rattle.virtual_calls.proofs.slots.Slots.of.Goals as goal

pub returns : goal.returns
returns c = are_slots c.args.tables.now.world.now.recs c.in_ok-rows.rows c.in_ok-rows.ensures
