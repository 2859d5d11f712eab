use Rattle.std.proofs.Common.{List, ap, ◌∙◌}
use Rattle.il_base.specs.declared.world_model.types.NestedClassRow.{NestedClassRow}
use Rattle.rules.specs.merge_rules.Sorted.{by_key}
use Rattle.merge_plan.proofs.Ranging.{all_end}
use Rattle.merged_tables.specs.merged_rows.Belonging.{nested_classes_in, nested_classes_by}
use Rattle.merged_tables.proofs.merged_rows.nested_classes.nested_classes.Goals as goal

pub returns : goal.returns
unfolding nested_classes_by
returns c =
    c.from_vec.ensures ∙ c.in_ok-sorted.ensures
    ∙ ap (λ (rows : List NestedClassRow). by_key (λ (row : NestedClassRow). row.nested_class) rows)
    (all_end (nested_classes_in c.args.tables.now) c.args.recs.now c.inputs-rec-items.result.now c.loop-a.a c.loop-a.rows.items c.inputs-rec-items.ensures c.loop-a-test.false c.loop-a.invariant)
