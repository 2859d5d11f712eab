-- The stretches of both halves are those of all.
use Rattle.std.proofs.Common.{◌/◌, arith}
use Rattle.pe_image.proofs.Looking.{of_none, of_both}
use Rattle.pe_image.proofs.sections.+stretches_from.Goals as goal

pub returns-then-count-eq0 : goal.returns-then-count-eq0
returns-then-count-eq0 t c = of_none c.args.bytes.now c.args.count c.args.first c.new.result.items c.if-count-eq0.true c.new.ensures.items

pub returns : goal.returns
returns t c =
    let all = rw (c.deref.ensures.value, c.deref-2.ensures.value) at c.in_ok-all-2.ensures in
    of_both c.args.bytes.now c.args.count (c.args.count / 2) c.args.first c.in_ok-upper.upper.items c.in_ok-lower.lower.items c.in_ok-all-2.all.items (omega arith)
    c.in_ok-upper.ensures c.in_ok-lower.ensures all
