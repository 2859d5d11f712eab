use Rattle.std.proofs.Common.{◌<◌, length, arith, sym, ◌∙◌, get_or}
use Rattle.closure.proofs.Steps.{puts_new, puts_known}
use Rattle.closure.proofs.facts.put_all.Goals as goal
use Rattle.closure.proofs.facts.put_all.Goals.{then-put, else-put}

pub loop-fact-preserved : goal.loop-fact-preserved
loop-fact-preserved c =
    let fact = get_or c.args.facts.now c.loop-fact.fact-index 0 in
    let inside : c.loop-fact.fact-index < length c.args.facts.now = omega arith in
    let below : fact < length c.loop-fact.set.flags = rw c.loop-fact.invariant.one_each (c.requires c.loop-fact.fact-index 0 inside) in
    elim c.if-put.branch [
      | then-put w ↦ rw (w.new-is, c.put.ensures.flags) (puts_new c.args.facts.now c.loop-fact.fact-index c.args.set.now.flags c.loop-fact.set.flags c.loop-fact.new c.loop-fact.invariant inside below (sym c.put.ensures.new ∙ w.if-put.true))
      | else-put w ↦ rw (w.new-is, c.put.ensures.flags) (puts_known c.args.facts.now c.loop-fact.fact-index c.args.set.now.flags c.loop-fact.set.flags c.loop-fact.new c.loop-fact.invariant inside below (sym c.put.ensures.new ∙ w.if-put.false))
    ]
