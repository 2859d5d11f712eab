use Rattle.std.proofs.Common.{List, ap, ◌∙◌}
use Rattle.il_base.specs.declared.cli_format.column.CodedIndex.TheVariants.{HasConstant}
use Rattle.il_base.specs.cli_format.Tokens.{coded_of}
use Rattle.il_base.specs.declared.world_model.extras.ConstantRow.{ConstantRow}
use Rattle.rules.specs.merge_rules.Sorted.{by_key}
use Rattle.merge_plan.proofs.Ranging.{all_end}
use Rattle.merged_tables.specs.merged_rows.Belonging.{constants_in, constants_by}
use Rattle.merged_tables.proofs.merged_rows.constants.constants.Goals as goal

pub returns : goal.returns
unfolding constants_by
returns c =
    c.from_vec.ensures ∙ c.in_ok-sorted.ensures
    ∙ ap (λ (rows : List ConstantRow). by_key (λ (row : ConstantRow). coded_of HasConstant row.parent) rows)
    (all_end (constants_in c.args.tables.now) c.args.recs.now c.inputs-rec-items.result.now c.loop-a.a c.loop-a.rows.items c.inputs-rec-items.ensures c.loop-a-test.false c.loop-a.invariant)
