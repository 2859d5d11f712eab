use Rattle.std.proofs.Common.{◌≡◌, ◌<◌, sym, ◌∙◌, arith}
use Rattle.attr_blobs.proofs.Names.{end_step, end_stop, end_empty}
use Rattle.attr_blobs.proofs.mark.without_end.Goals as goal

pub returns-then-not-is_blank : goal.returns-then-not-is_blank
returns-then-not-is_blank c =
    let p : 0 < c.loop-n.n = omega arith in
    end_stop c.args.marks.now c.loop-n.n _ _ p c.loop-n.invariant.within (sym c.is_blank.ensures ∙ c.if-not-is_blank.true) c.loop-n.invariant.same

pub loop-n-preserved : goal.loop-n-preserved
loop-n-preserved c =
    let p : 0 < c.loop-n.n = omega arith in
    record {
      within = omega arith;
      same = end_step c.args.marks.now c.loop-n.n _ _ p c.loop-n.invariant.within (sym c.is_blank.ensures ∙ c.if-not-is_blank.false) c.loop-n.invariant.same;
    }

pub returns : goal.returns
returns c = let z : c.loop-n.n ≡ 0 = omega arith in end_empty c.args.marks.now _ c.loop-n.n z c.loop-n.invariant.same
