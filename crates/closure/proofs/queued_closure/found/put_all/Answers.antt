use Rattle.std.proofs.Common.{◌<◌, length, arith, sym, ◌∙◌, get_or}
use Rattle.closure.proofs.Steps.{puts_none, puts_new, puts_known}
use Rattle.closure.proofs.lemmas.queued_closure.Lists.{waits_none, waits_new, waits_known}
use Rattle.closure.proofs.queued_closure.found.put_all.Goals as goal
use Rattle.closure.proofs.queued_closure.found.put_all.Goals.{then-is_new, else-is_new}

pub loop-fact-init : goal.loop-fact-init
loop-fact-init c = record {
  flags = puts_none c.args.facts.now c.args.found.now.set.flags;
  waits = waits_none c.args.found.now.set.flags c.args.found.now.waiting;
}

pub loop-fact-preserved : goal.loop-fact-preserved
loop-fact-preserved c =
    let fact = get_or c.args.facts.now c.loop-fact.fact-index 0 in
    let p = c.loop-fact.invariant in
    let mid = c.loop-fact.found in
    let inside : c.loop-fact.fact-index < length c.args.facts.now = omega arith in
    let below : fact < length mid.set.flags = rw p.flags.one_each (c.requires c.loop-fact.fact-index 0 inside) in
    elim c.if-is_new.branch [
      | then-is_new w ↦ record {
        flags = rw (w.new-is, c.in_ok-is_new.ensures.flags)
            (puts_new c.args.facts.now c.loop-fact.fact-index c.args.found.now.set.flags mid.set.flags c.loop-fact.new p.flags inside below (sym c.in_ok-is_new.ensures.new ∙ w.if-is_new.true));
        waits = rw (w.new-is, c.in_ok-is_new.ensures.flags, c.in_ok-is_new.ensures.waiting)
            (waits_new c.args.found.now.set.flags c.args.found.now.waiting mid.set.flags mid.waiting c.loop-fact.new p.waits fact below (sym c.in_ok-is_new.ensures.new ∙ w.if-is_new.true));
      }
      | else-is_new w ↦ record {
        flags = rw (w.new-is, c.in_ok-is_new.ensures.flags)
            (puts_known c.args.facts.now c.loop-fact.fact-index c.args.found.now.set.flags mid.set.flags c.loop-fact.new p.flags inside below (sym c.in_ok-is_new.ensures.new ∙ w.if-is_new.false));
        waits = rw (w.new-is, c.in_ok-is_new.ensures.flags, c.in_ok-is_new.ensures.waiting)
            (waits_known c.args.found.now.set.flags c.args.found.now.waiting mid.set.flags mid.waiting c.loop-fact.new p.waits fact below (sym c.in_ok-is_new.ensures.new ∙ w.if-is_new.false));
      }
    ]
