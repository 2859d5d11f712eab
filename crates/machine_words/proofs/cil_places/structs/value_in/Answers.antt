use Rattle.std.proofs.Common.{◌∙◌, sym}
use Rattle.machine_words.proofs.lemmas.cil_places.Ways.{step_in, none_in, end_in}
use Rattle.machine_words.proofs.cil_places.structs.value_in.Goals as goal

pub returns-in_default : goal.returns-in_default
returns-in_default c = sym (none_in c.args.steps.now c.loop-k.k-index c.loop-k.at.now c.loop-k-test.true (sym c.in_default.ensures)) ∙ c.loop-k.invariant

pub loop-k-preserved : goal.loop-k-preserved
loop-k-preserved c = sym (step_in c.args.steps.now c.loop-k.k-index c.loop-k.at.now c.in-Some.inner.now c.loop-k-test.true (sym c.in-Some.ensures)) ∙ c.loop-k.invariant

pub returns : goal.returns
returns c = sym (end_in c.args.steps.now c.loop-k.k-index c.loop-k.at.now c.loop-k-test.false) ∙ c.loop-k.invariant
