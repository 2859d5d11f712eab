use Rattle.std.proofs.Common.{◌∙◌, arith}
use Rattle.rules.specs.step_rules.Places.{change_global}
use Rattle.machine_words.proofs.lemmas.cil_places.Mixed.{changed, mixed_all}
use Rattle.machine_words.proofs.cil_places.globals.change_globals.Goals as goal

pub loop-i-preserved : goal.loop-i-preserved
loop-i-preserved c =
    changed (change_global c.args.field c.args.owner.now c.args.v.now) c.args.statics.now.items c.loop-i.statics.items c.loop-i.i c.index_mut.result.now c.change_global.new.g
    c.loop-i.invariant (omega (arith, c.loop-i-test.true, c.len-i-end.ensures)) c.index_mut.ensures.value c.in_ok-change_global.ensures

pub returns : goal.returns
returns c =
    c.loop-i.invariant ∙ mixed_all (change_global c.args.field c.args.owner.now c.args.v.now) c.loop-i.i c.args.statics.now.items (omega (arith, c.loop-i-test.false, c.len-i-end.ensures))
