use Rattle.std.proofs.Common.{◌≡◌, ◌++◌, drop}
use Rattle.std.specs.List.{filter}
use Rattle.rules.specs.declared.link_rules.row_at.RowAt.{RowAt}
use Rattle.merge_plan.specs.Kept.{item_at, kept_by}
use Rattle.restrict.proofs.met_order.members.those.Given as goal

abbrev pub invariant-loop-at : goal.invariant-loop-at
invariant-loop-at l =
    l.some.items ++ filter (λ (at : RowAt). kept_by l.kept (item_at l.kind l.recs at)) (drop l.at-index l.rows)
    ≡ filter (λ (at : RowAt). kept_by l.kept (item_at l.kind l.recs at)) l.rows
