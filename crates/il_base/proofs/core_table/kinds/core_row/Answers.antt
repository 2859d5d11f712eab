use Rattle.std.proofs.Common.{◌≡◌, length, arith}
use Rattle.il_base.specs.core_table.Kinds.{core_row}
use Rattle.il_base.proofs.lemmas.core_table.CoreRows.{at_last, at_less, at_next, at_end}
use Rattle.il_base.proofs.core_table.kinds.core_row.Goals as goal

pub returns-then-i-recs : goal.returns-then-i-recs
returns-then-i-recs c =
    at_last c.args.recs.now c.loop-i.i c.loop-i.left c.index-recs-i.result (core_row c.args.recs.now c.args.method) (omega arith) c.index-recs-i.is (omega arith) c.loop-i.invariant

pub returns : goal.returns
returns c = at_end c.args.recs.now c.loop-i.i c.loop-i.left (core_row c.args.recs.now c.args.method) (omega arith) c.loop-i.invariant

pub returns-then-left-count : goal.returns-then-left-count
returns-then-left-count c =
    at_less c.args.recs.now c.loop-i.i c.loop-i.left c.index-recs-i.result (core_row c.args.recs.now c.args.method) (omega arith) c.index-recs-i.is (omega arith)
    (omega (arith, c.len-count.ensures)) c.loop-i.invariant

pub loop-i-preserved : goal.loop-i-preserved
loop-i-preserved c =
    let count : c.len-count.result ≡ length c.index-recs-i.result.method_def = c.len-count.ensures in
    rw count (at_next c.args.recs.now c.loop-i.i c.loop-i.left c.index-recs-i.result (core_row c.args.recs.now c.args.method) (omega arith) c.index-recs-i.is (omega arith)
    (omega (arith, c.len-count.ensures)) c.loop-i.invariant)
