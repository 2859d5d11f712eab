use Rattle.std.proofs.Common.{◌-◌, arith}
use Rattle.type_tables.proofs.lemmas.member_search.RowLemmas.{rows_step, rows_left}
use Rattle.mark_parts.specs.mark_facts.Kinds.{count_in}
use Rattle.mark_parts.proofs.mark_facts.rows.rows_before.Goals as goal

pub loop-i-preserved : goal.loop-i-preserved
loop-i-preserved c =
    let step = rows_step (count_in c.args.kind) c.args.all.now c.loop-i.i c.args.a c.index-all-i.result (omega arith) (omega arith) c.index-all-i.is in
    record { within = omega arith; counted = omega (arith, step, c.loop-i.invariant.counted, c.in_ok-before.ensures, c.count_in.ensures) }

pub returns-after-loop-i : goal.returns-after-loop-i
returns-after-loop-i c =
    omega (arith, c.loop-i.invariant.counted, rows_left (count_in c.args.kind) c.args.all.now c.loop-i.i (c.args.a - c.loop-i.i) (omega arith))
