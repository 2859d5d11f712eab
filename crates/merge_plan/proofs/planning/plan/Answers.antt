use Rattle.std.proofs.Common.{List, sym, ap, ◌∙◌}
use Rattle.rules.specs.declared.link_rules.row_at.RowAt.{RowAt}
use Rattle.rules.specs.merge_rules.Numbers.{kept_types}
use Rattle.merge_plan.specs.Contests.{shown_by}
use Rattle.merge_plan.specs.Plans.{planned_by}
use Rattle.merge_plan.proofs.planning.plan.Goals as goal

pub returns-in-Ok-Plan : goal.returns-in-Ok-Plan
unfolding kept_types
returns-in-Ok-Plan c =
    let recs = c.args.index.now.all.now in
    ap (λ (kept : List RowAt). planned_by c.args.internal recs (shown_by c.args.shown.now) kept) (sym (c.as_slice.ensures.value ∙ c.in-Ok.ensures))
    ∙ sym c.in-Ok-Plan.ensures ∙ c.in-Ok-Plan.field-0-is

pub returns : goal.returns
unfolding kept_types
returns c =
    let recs = c.args.index.now.all.now in
    ap (λ (kept : List RowAt). planned_by c.args.internal recs (shown_by c.args.shown.now) kept) (sym (c.as_slice.ensures.value ∙ c.in-Ok.ensures))
    ∙ sym c.in-Ok-Collision.ensures ∙ c.in-Ok-Collision.field-0-is
