use Rattle.descriptor_texts.proofs.lemmas.slashed_names.ChainLemmas.{more_put, none_left}
use Rattle.descriptor_texts.proofs.slashed_names.chain.put_inner.Goals as goal

pub returns-in-None : goal.returns-in-None
returns-in-None c = none_left c.args.rec.now _ _ _ c.in-None.ensures.0 c.loop-left.invariant

pub loop-left-preserved : goal.loop-left-preserved
loop-left-preserved c =
    more_put c.args.rec.now _ _ _ _ _ _ _ c.in-Some.ensures c.in_ok-push-in-Some.ensures.ok c.in_ok-put_bare-in-Some.ensures c.loop-left.invariant
