use Rattle.std.proofs.Common.{◌∙◌, ◌+◌, ◌-◌, arith}
use Rattle.token_keys.specs.declared.absent_types.scopes.Step.TheVariants.{Decided, AsOuter}
use Rattle.token_keys.proofs.lemmas.absent_types.Stepping.{step_same, no_step}
use Rattle.token_keys.proofs.absent_types.reading.reads_same.Goals as goal

pub returns-in-Ok-Decided : goal.returns-in-Ok-Decided
returns-in-Ok-Decided c =
    let a = c.in-Ok-Decided in
    step_same c.args.index.now.all.now (c.args.most - c.loop-k.k) (c.args.most - (c.loop-k.k + 1)) c.loop-k.row c.loop-k.other a.field-0 (Decided a.same) (omega arith) a.field-0-is a.ensures
    ∙ c.loop-k.invariant

pub loop-k-preserved : goal.loop-k-preserved
loop-k-preserved c =
    let a = c.in-Ok-AsOuter in
    step_same c.args.index.now.all.now (c.args.most - c.loop-k.k) (c.args.most - (c.loop-k.k + 1)) c.loop-k.row c.loop-k.other a.field-0 (AsOuter a.outer a.around) (omega arith) a.field-0-is a.ensures
    ∙ c.loop-k.invariant

pub returns : goal.returns
returns c = no_step c.args.index.now.all.now (c.args.most - c.loop-k.k) c.loop-k.row c.loop-k.other (omega arith) ∙ c.loop-k.invariant
