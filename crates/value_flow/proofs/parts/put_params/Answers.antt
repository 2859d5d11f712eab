use Rattle.value_flow.proofs.Looping.{put_param}
use Rattle.value_flow.proofs.parts.put_params.Goals as goal

pub loop-k-preserved : goal.loop-k-preserved
loop-k-preserved c =
    put_param c.args.sources.now c.loop-k.begins.items c.push.new.self.items _ c.loop-k.k c.in_ok-n.n c.args.params c.loop-k-test.true c.in_ok-n.ensures c.in_ok-push.ensures.items c.loop-k.invariant
