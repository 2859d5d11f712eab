use Rattle.std.proofs.Common.{length, ap, ◌∙◌}
use Rattle.il_base.specs.declared.world_model.record.AsmRec.{AsmRec}
use Rattle.type_names.proofs.ChainLemmas.{start, not_nested, nested}
use Rattle.type_names.proofs.chain.Chain.of.Goals as goal

pub loop-step-init : goal.loop-step-init
loop-step-init c = start _ _ _ _ _ (c.len-step-end.ensures ∙ ap (λ (r : AsmRec). length r.type_def) c.rec.ensures) c.new-inner.ensures

pub returns-in-None : goal.returns-in-None
returns-in-None c = not_nested _ _ _ _ _ _ c.loop-step-test.true c.in-None.ensures c.loop-step.invariant

pub loop-step-preserved : goal.loop-step-preserved
loop-step-preserved c = nested _ _ _ _ _ _ _ _ c.loop-step-test.true c.in-Some.ensures c.in_ok-push-in-Some.ensures.ok c.loop-step.invariant
