use Rattle.std.proofs.Common.{ℕ, ◌++◌, ap, ◌∙◌}
use Rattle.merge_plan.specs.Kept.{all_from, kept_by}
use Rattle.merge_plan.proofs.Ranging.{all_step, all_end}
use Rattle.merged_tables.specs.merged_maps.Maps.{property_maps_in, property_maps_by}
use Rattle.merged_tables.proofs.merged_maps.property_maps.property_maps.Goals as goal

pub loop-a-preserved : goal.loop-a-preserved
loop-a-preserved c =
    let f = property_maps_in c.args.recs.now (kept_by c.args.kept.now) c.args.tables.now in
    all_step f c.inputs-rec-items.result.now c.loop-a.a c.rec-item.result c.loop-a.rows c.push_property_maps.new.rows (all_from f 0 c.inputs-rec-items.result.now) c.loop-a-test.true c.rec-item.is
    (c.in_ok-push_property_maps.ensures ∙ ap (λ (a : ℕ). c.loop-a.rows ++ f a c.rec-item.result) c.in_ok-asm.ensures) c.loop-a.invariant

pub returns : goal.returns
unfolding property_maps_by
returns c =
    all_end (property_maps_in c.args.recs.now (kept_by c.args.kept.now) c.args.tables.now) c.args.recs.now c.inputs-rec-items.result.now c.loop-a.a c.loop-a.rows c.inputs-rec-items.ensures c.loop-a-test.false
    c.loop-a.invariant
