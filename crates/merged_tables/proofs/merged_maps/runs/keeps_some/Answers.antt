use Rattle.std.specs.List.{list_any, range_with_len}
use Rattle.merge_plan.specs.Kept.{kept_by}
use Rattle.merged_tables.specs.merged_maps.Maps.{keeps_row}
use Rattle.merged_tables.proofs.lemmas.merged_maps.Searching.{none_here}
use Rattle.merged_tables.proofs.merged_maps.runs.keeps_some.Goals as goal

pub loop-k-preserved : goal.loop-k-preserved
loop-k-preserved c =
    let p = keeps_row c.args.kind c.args.recs.now (kept_by c.args.kept.now) c.args.asm in
    none_here p c.args.start c.loop-k.k c.args.count c.in_ok-row.row c.in_ok-stays.stays (list_any p (range_with_len c.args.start c.args.count))
    c.loop-k-test.true c.in_ok-row.ensures c.in_ok-stays.ensures c.if-stays.false c.loop-k.invariant
