use Rattle.std.proofs.Common.{◌≡◌, ◌++◌, encode_utf8, sym, rules}
use Rattle.attr_blobs.proofs.Names.{text_step, text_none, text_end}
use Rattle.attr_blobs.proofs.mark.text_of.Goals as goal

pub returns-in-None : goal.returns-in-None
returns-in-None c = text_none c.args.marks.now c.loop-mark.mark-index _ c.loop-mark.text _ c.loop-mark-test.true (sym c.in-None.ensures) c.loop-mark.invariant

pub loop-mark-preserved : goal.loop-mark-preserved
loop-mark-preserved c =
    let n : c.append.new.text ≡ c.loop-mark.text ++ encode_utf8 c.in-Some.letter = search rules in
    let k = text_step c.args.marks.now c.loop-mark.mark-index _ c.loop-mark.text c.in-Some.letter _ c.loop-mark-test.true (sym c.in-Some.ensures) c.loop-mark.invariant in
    rw n k

pub returns : goal.returns
returns c = text_end c.args.marks.now c.loop-mark.mark-index c.loop-mark.text _ (search rules) c.loop-mark.invariant
