use Rattle.rules.specs.flow_rules.Moves.{sources_by}
use Rattle.value_flow.specs.body_graph.Methods.{setting_in}
use Rattle.value_flow.proofs.Looping.{added_code}
use Rattle.value_flow.proofs.sources.add_code.Goals as goal

pub loop-i-preserved : goal.loop-i-preserved
loop-i-preserved c =
    added_code (sources_by c.args.m.now.world.now.recs (setting_in c.args.m.now) c.args.owner) c.loop-i.sources c.add_by.new.sources _ c.as_slice-i-items.result.now c.args.m.now.body.now.code
    c.loop-i.i-index c.i-item.result c.as_slice-i-items.ensures c.loop-i-test.true c.i-item.is c.in_ok-add_by.ensures c.loop-i.invariant
