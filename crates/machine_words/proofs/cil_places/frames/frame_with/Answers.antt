use Rattle.machine_words.proofs.lemmas.cil_places.Backs.{found_below, next_below}
use Rattle.rules.specs.step_rules.Places.{has_number}
use Rattle.std.specs.List.{find}
use Rattle.std.proofs.Common.{reverse}
use Rattle.machine_words.proofs.cil_places.frames.frame_with.Goals as goal

pub returns-then-f-number : goal.returns-then-f-number
returns-then-f-number c =
    found_below c.args.number c.args.st.now c.as_slice-frames.result.now c.loop-i.i c.index-frames-frames.result c.as_slice-frames.ensures c.if-st-number.false
    c.loop-i-test.true c.index-frames-frames.is c.if-f-number.true c.loop-i.invariant

pub loop-i-preserved : goal.loop-i-preserved
loop-i-preserved c =
    next_below c.args.number c.as_slice-frames.result.now c.loop-i.i c.index-frames-frames.result (find (has_number c.args.number) (reverse c.as_slice-frames.result.now))
    c.loop-i-test.true c.index-frames-frames.is c.if-f-number.false c.loop-i.invariant
