use Rattle.value_flow.proofs.Looping.{put_local}
use Rattle.value_flow.proofs.parts.put_locals.Goals as goal

pub loop-k-preserved : goal.loop-k-preserved
loop-k-preserved c =
    put_local c.args.sources.now c.loop-k.begins.items c.push.new.self.items _ c.loop-k._k c.in_ok-null.null c.args.locals c.loop-k-test.true c.in_ok-null.ensures c.in_ok-push.ensures.items c.loop-k.invariant
