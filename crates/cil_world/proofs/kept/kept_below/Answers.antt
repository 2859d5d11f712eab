use Rattle.cil_world.proofs.lemmas.Keeping.{kept_next}
use Rattle.cil_world.proofs.kept.kept_below.Goals as goal

pub loop-n-preserved : goal.loop-n-preserved
loop-n-preserved c =
    kept_next c.args.layouts.now.recs c.loop-n.kept.items c.push.new.self.items c.loop-n.n c.in_ok-one.one c.loop-n.invariant c.in_ok-one.ensures c.in_ok-push.ensures.items
