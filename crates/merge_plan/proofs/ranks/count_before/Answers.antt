use Rattle.std.proofs.Common.{ℕ, length, nat_lt, ap, ◌∙◌}
use Rattle.std.specs.List.{filter}
use Rattle.merge_plan.proofs.Ranking.{counted}
use Rattle.merge_plan.proofs.ranks.count_before.Goals as goal

pub returns : goal.returns
returns c =
    c.count_below.ensures ∙ ap (λ (e : ℕ). length (filter (λ n. nat_lt n e) c.args.ranks.now)) c.order_of-end.ensures.order
    ∙ counted c.args.asm c.args.row c.order_of-end.ensures.fits c.args.rows.now c.args.ranks.now c.requires.fit c.requires.same
