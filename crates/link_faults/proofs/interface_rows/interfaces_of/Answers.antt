use Rattle.std.proofs.Common.{arith}
use Rattle.link_faults.proofs.Interfaces.{led_step}
use Rattle.link_faults.proofs.interface_rows.interfaces_of.Goals as goal

pub loop-row-preserved : goal.loop-row-preserved
loop-row-preserved c =
    led_step c.args.scope.now.all.now c.args.scope.now.links.now c.args.flags.now c.args.asm.0 c.as_slice-row-items.result.now c.loop-row.row-index (record { class = 0; interface = 0 }) c.loop-row.graph.items c.lead_to_interface.new.graph.items c.args.rec.now.type_def
    (omega arith) c.loop-row.invariant c.in_ok-lead_to_interface.ensures
