use Rattle.std.proofs.Common.{◌≡◌, sym, ◌∙◌, IfNone}
use Rattle.std.specs.BinaryHeap.{heap_items}
use Rattle.il_code.proofs.Numbers.{top_is, rest_kept, rest_was, the_same}
use Rattle.il_code.proofs.tops.Tops.greatest.Goals as goal

pub loop-number-preserved : goal.loop-number-preserved
loop-number-preserved c =
    let old = heap_items c.loop-number.self.heap in
    let new = heap_items c.pop.new.self in
    let top = top_is c.peek.result (c.in-Some.number, c.in-Some.end) old (sym c.copied.ensures ∙ c.in-Some.is) c.peek.ensures.lookup in
    let same : IfNone c.pop.result (new ≡ old) = the_same old new _ _ c.pop.result c.pop.ensures.unchanged in
    record {
      kept = λ x h l. rest_kept old new c.pop.result (c.in-Some.number, c.in-Some.end) c.args.place top c.if-place-end.false c.pop.ensures.top c.pop.ensures.permutation same x (c.loop-number.invariant.kept x h l) l;
      old = λ x h. c.loop-number.invariant.old x (rest_was old new c.pop.result c.pop.ensures.permutation same x h);
    }
