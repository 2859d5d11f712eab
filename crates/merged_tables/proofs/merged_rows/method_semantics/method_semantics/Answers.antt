use Rattle.std.proofs.Common.{List, ap, ◌∙◌}
use Rattle.il_base.specs.declared.cli_format.column.CodedIndex.TheVariants.{HasSemantics}
use Rattle.il_base.specs.cli_format.Tokens.{coded_of}
use Rattle.il_base.specs.declared.world_model.members.MethodSemanticsRow.{MethodSemanticsRow}
use Rattle.rules.specs.merge_rules.Sorted.{by_key}
use Rattle.merge_plan.proofs.Ranging.{all_end}
use Rattle.merged_tables.specs.merged_rows.Belonging.{method_semantics_in, method_semantics_by}
use Rattle.merged_tables.proofs.merged_rows.method_semantics.method_semantics.Goals as goal

pub returns : goal.returns
unfolding method_semantics_by
returns c =
    c.from_vec.ensures ∙ c.in_ok-sorted.ensures
    ∙ ap (λ (rows : List MethodSemanticsRow). by_key (λ (row : MethodSemanticsRow). coded_of HasSemantics row.association) rows)
    (all_end (method_semantics_in c.args.tables.now) c.args.recs.now c.inputs-rec-items.result.now c.loop-a.a c.loop-a.rows.items c.inputs-rec-items.ensures c.loop-a-test.false c.loop-a.invariant)
