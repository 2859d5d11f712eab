use Rattle.merge_plan.specs.Kept.{count_in, rows_of_one}
use Rattle.merge_plan.proofs.Ranging.{all_end}
use Rattle.merge_plan.proofs.rows.rows_of_kind.Goals as goal

pub returns : goal.returns
returns c =
    all_end (rows_of_one (count_in c.args.kind)) c.args.recs.now c.inputs-rec-items.result.now c.loop-a.a c.loop-a.rows.items c.inputs-rec-items.ensures c.loop-a-test.false c.loop-a.invariant
