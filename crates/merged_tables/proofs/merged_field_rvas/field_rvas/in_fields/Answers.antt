use Rattle.std.proofs.Common.{List, ap, ◌∙◌}
use Rattle.il_base.specs.declared.world_model.extras.FieldRvaRow.{FieldRvaRow}
use Rattle.rules.specs.merge_rules.Sorted.{by_key}
use Rattle.merge_plan.proofs.Ranging.{all_end}
use Rattle.merged_tables.specs.merged_field_rvas.FieldRvas.{field_rvas_in}
use Rattle.merged_tables.proofs.merged_field_rvas.field_rvas.in_fields.Goals as goal

pub returns : goal.returns
returns c =
    c.in_ok-sorted.ensures
    ∙ ap (λ (rows : List FieldRvaRow). by_key (λ (row : FieldRvaRow). row.field) rows)
    (all_end (field_rvas_in c.args.tables.now) c.args.recs.now c.inputs-rec-items.result.now c.loop-a.a c.loop-a.rows.items c.inputs-rec-items.ensures c.loop-a-test.false c.loop-a.invariant)
