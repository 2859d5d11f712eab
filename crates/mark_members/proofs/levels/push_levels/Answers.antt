use Rattle.mark_members.proofs.Waiting.{push_next, push_end}
use Rattle.mark_members.proofs.levels.push_levels.Goals as goal

pub returns-in-None : goal.returns-in-None
returns-in-None c = push_end c.args.levels _ _ _ c.in-None.ensures.0 c.loop-left.invariant

pub loop-left-preserved : goal.loop-left-preserved
loop-left-preserved c = push_next c.args.levels _ _ _ _ _ _ c.in-Some.ensures c.in_ok-push-in-Some.ensures.ok c.loop-left.invariant
