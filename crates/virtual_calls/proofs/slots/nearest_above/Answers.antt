use Rattle.std.proofs.Common.{sym}
use Rattle.type_tables.specs.member_search.Wanted.{look_for}
use Rattle.virtual_calls.proofs.Slotting.{above_none}
use Rattle.virtual_calls.proofs.slots.nearest_above.Goals as goal

pub returns-in-None : goal.returns-in-None
returns-in-None c =
    let recs = c.args.tables.now.world.now.recs in
    above_none recs (look_for recs c.args.name.now c.args.wanted.now) c.args.owner (sym c.in-None.ensures)
