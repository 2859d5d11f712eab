use Rattle.std.proofs.Common.{◌∙◌, arith}
use Rattle.rules.specs.step_rules.Places.{change_frame}
use Rattle.machine_words.specs.cil_places.Parts.{set_slot}
use Rattle.machine_words.proofs.lemmas.cil_places.Mixed.{changed, mixed_all}
use Rattle.machine_words.proofs.cil_places.frames.change_frames.Goals as goal

pub loop-i-preserved : goal.loop-i-preserved
loop-i-preserved c =
    changed (change_frame c.args.number (set_slot c.args.slot c.args.v.now)) c.args.frames.now.items c.loop-i.frames.items c.loop-i.i c.index_mut.result.now c.change_frame.new.f
    c.loop-i.invariant (omega (arith, c.loop-i-test.true, c.len-i-end.ensures)) c.index_mut.ensures.value c.in_ok-change_frame.ensures

pub returns : goal.returns
returns c =
    c.loop-i.invariant ∙ mixed_all (change_frame c.args.number (set_slot c.args.slot c.args.v.now)) c.loop-i.i c.args.frames.now.items (omega (arith, c.loop-i-test.false, c.len-i-end.ensures))
