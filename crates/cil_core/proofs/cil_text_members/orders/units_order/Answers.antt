use Rattle.std.proofs.Common.{◌∙◌, sym}
use Rattle.cil_core.proofs.lemmas.cil_text_members.Longer.{longer}
use Rattle.cil_core.proofs.cil_text_members.orders.units_order.Goals as goal

pub returns-in_default : goal.returns-in_default
returns-in_default c =
    sym (longer c.args.us.now c.loop-u.u-index c.loop-u.left.now c.loop-u-test.true c.in_default.len_below) ∙ c.loop-u.invariant
