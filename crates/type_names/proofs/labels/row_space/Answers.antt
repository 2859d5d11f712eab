use Rattle.std.proofs.Common.{refl}
use Rattle.type_names.proofs.ChainLemmas.{outermost, outwards, in_circle}
use Rattle.type_names.proofs.labels.row_space.Goals as goal

pub returns-in-None : goal.returns-in-None
returns-in-None c = outermost _ _ _ _ _ _ _ c.loop-step-test.true c.rec-rec.ensures c.in-None.ensures c.own_space.ensures c.loop-step.invariant

pub loop-step-preserved : goal.loop-step-preserved
loop-step-preserved c = outwards _ _ _ _ _ _ c.loop-step-test.true c.in-Some.ensures c.loop-step.invariant

pub returns : goal.returns
returns c = in_circle _ _ _ _ _ _ c.loop-step-test.false refl c.loop-step.invariant
