use Rattle.value_flow.proofs.Looping.{added_param}
use Rattle.value_flow.proofs.sources.add_params.Goals as goal

pub loop-k-preserved : goal.loop-k-preserved
loop-k-preserved c = added_param c.loop-k.sources c.add_new.new.sources _ c.loop-k.k c.args.params c.loop-k-test.true c.in_ok-add_new.ensures c.loop-k.invariant
