use Rattle.std.proofs.Common.{List, ap, ◌∙◌}
use Rattle.il_base.specs.declared.world_model.types.ClassLayoutRow.{ClassLayoutRow}
use Rattle.rules.specs.merge_rules.Sorted.{by_key}
use Rattle.merge_plan.proofs.Ranging.{all_end}
use Rattle.merged_tables.specs.merged_rows.Belonging.{class_layouts_in, class_layouts_by}
use Rattle.merged_tables.proofs.merged_rows.class_layouts.class_layouts.Goals as goal

pub returns : goal.returns
unfolding class_layouts_by
returns c =
    c.from_vec.ensures ∙ c.in_ok-sorted.ensures
    ∙ ap (λ (rows : List ClassLayoutRow). by_key (λ (row : ClassLayoutRow). row.parent) rows)
    (all_end (class_layouts_in c.args.tables.now) c.args.recs.now c.inputs-rec-items.result.now c.loop-a.a c.loop-a.rows.items c.inputs-rec-items.ensures c.loop-a-test.false c.loop-a.invariant)
