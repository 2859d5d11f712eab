use Rattle.std.proofs.Common.{◌∙◌, ◌+◌, ◌-◌, arith}
use Rattle.token_keys.specs.declared.copied_attributes.references.Step.TheVariants.{Decided, AsOuter}
use Rattle.token_keys.proofs.lemmas.copied_attributes.Walk.{step_same, no_step}
use Rattle.token_keys.proofs.copied_attributes.references.may_refer.Goals as goal

pub returns-in-Ok-Decided : goal.returns-in-Ok-Decided
returns-in-Ok-Decided c =
    let a = c.in-Ok-Decided in
    step_same c.args.index.now.all.now c.args.a c.args.rec.now (c.args.most - c.loop-i.i) (c.args.most - (c.loop-i.i + 1)) c.loop-i.at a.field-0 (Decided a.may) (omega arith) a.field-0-is a.ensures
    ∙ c.loop-i.invariant

pub loop-i-preserved : goal.loop-i-preserved
loop-i-preserved c =
    let a = c.in-Ok-AsOuter in
    step_same c.args.index.now.all.now c.args.a c.args.rec.now (c.args.most - c.loop-i.i) (c.args.most - (c.loop-i.i + 1)) c.loop-i.at a.field-0 (AsOuter a.outer) (omega arith) a.field-0-is a.ensures
    ∙ c.loop-i.invariant

pub returns : goal.returns
returns c = no_step c.args.index.now.all.now c.args.a c.args.rec.now (c.args.most - c.loop-i.i) c.loop-i.at (omega arith) ∙ c.loop-i.invariant
