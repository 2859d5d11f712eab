use Rattle.std.proofs.Common.{sym, ◌∙◌}
use Rattle.type_names.proofs.ChainLemmas.{start, not_nested, nested}
use Rattle.keep_lists.proofs.chain.chain_of.Goals as goal

pub loop-step-init : goal.loop-step-init
loop-step-init c = start _ _ _ _ _ c.len-step-end.ensures c.new-inner.ensures

pub returns-in-None : goal.returns-in-None
returns-in-None c = not_nested _ _ _ _ _ _ c.loop-step-test.true (sym c.in-None.is ∙ c.in_ok-around.ensures) c.loop-step.invariant

pub loop-step-preserved : goal.loop-step-preserved
loop-step-preserved c = nested _ _ _ _ _ _ _ _ c.loop-step-test.true (sym c.in-Some.is ∙ c.in_ok-around.ensures) c.in_ok-push-in-Some.ensures.ok c.loop-step.invariant
