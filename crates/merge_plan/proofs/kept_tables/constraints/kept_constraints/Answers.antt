use Rattle.std.proofs.Common.{List, map, ap, ◌∙◌}
use Rattle.rules.specs.merge_rules.Rows as rows
use Rattle.merge_plan.proofs.Ranging.{all_end}
use Rattle.merge_plan.specs.kept_tables.Order.{sorted_of}
use Rattle.merge_plan.specs.kept_tables.Tables.{constraints_in}
use Rattle.merge_plan.proofs.kept_tables.constraints.kept_constraints.Goals as goal

pub returns : goal.returns
returns c =
    c.in_ok-sorted.ensures
    ∙ ap (λ (xs : List rows.SortedRow). rows.in_order xs)
    (all_end (constraints_in c.args.params.now) c.args.recs.now c.inputs-rec-items.result.now c.loop-a.a (map sorted_of c.loop-a.rows.items) c.inputs-rec-items.ensures c.loop-a-test.false c.loop-a.invariant)
