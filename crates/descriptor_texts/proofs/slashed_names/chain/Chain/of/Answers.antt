use Rattle.std.proofs.Common.{ℕ, ◌+◌, sym, ap, ◌∙◌}
use Rattle.mark_parts.specs.mark_tables.Assemblies.{rec_of}
use Rattle.descriptor_texts.proofs.lemmas.slashed_names.ChainLemmas.{start, not_there, not_nested, nested, no_step}
use Rattle.descriptor_texts.proofs.slashed_names.chain.Chain.of.Goals as goal

pub loop-step-init : goal.loop-step-init
loop-step-init c = start (rec_of c.args.asm.now) _ _ _ _ (c.in_ok-count.ensures ∙ ap (λ (n : ℕ). 1 + n) c.len.ensures) c.new-inner.ensures

pub returns-then-not-there : goal.returns-then-not-there
returns-then-not-there c = not_there (rec_of c.args.asm.now) _ _ _ _ _ c.loop-step-test.true (sym c.if-not-there.ensures) c.loop-step.invariant

pub returns-in-Ok-None : goal.returns-in-Ok-None
returns-in-Ok-None c = not_nested (rec_of c.args.asm.now) _ _ _ _ _ c.loop-step-test.true (sym c.in-Ok-None.field-0-is ∙ c.in-Ok-None.ensures) c.loop-step.invariant

pub loop-step-preserved : goal.loop-step-preserved
loop-step-preserved c =
    nested (rec_of c.args.asm.now) _ _ _ _ _ _ _ c.loop-step-test.true (sym c.if-not-there.ensures) (sym c.in-Ok-Some.field-0-is ∙ c.in-Ok-Some.ensures) c.in_ok-push-in-Ok-Some.ensures.ok c.loop-step.invariant

pub returns : goal.returns
returns c = no_step (rec_of c.args.asm.now) _ _ _ _ _ c.loop-step-test.false c.loop-step.invariant
