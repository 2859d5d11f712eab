use Rattle.std.proofs.Common.{◌≡◌, ◌++◌, drop}
use Rattle.std.specs.List.{filter}
use Rattle.rules.specs.declared.link_rules.row_at.RowAt.{RowAt}
use Rattle.merge_plan.specs.Kept.{item_at, kept_by}
use Rattle.merge_plan.proofs.rows.kept_rows.Given as goal

abbrev pub invariant-loop-at : goal.invariant-loop-at
invariant-loop-at l =
    l.rows.items ++ filter (λ (at : RowAt). kept_by l.kept (item_at l.kind l.recs at)) (drop l.at-index l.at-items)
    ≡ filter (λ (at : RowAt). kept_by l.kept (item_at l.kind l.recs at)) l.at-items
