use Rattle.std.proofs.Common.{◌≡◌, ◌+◌, ◌-◌, List, [], ◌∷◌, ◌++◌, map, ap, ◌∙◌}
use Rattle.std.specs.List.{range_with_len}
use Rattle.rules.specs.declared.link_rules.row_at.RowAt.{RowAt}
use Rattle.rules.specs.link_rules.Types.{at_row}
use Rattle.merge_plan.proofs.Ranging.{range_next}
use Rattle.merge_plan.proofs.rows.push_run.Goals as goal

pub loop-k-preserved : goal.loop-k-preserved
loop-k-preserved c =
    let rows = c.loop-k.rows.items in
    let more : c.push.new.self.items ≡ rows ++ at_row c.args.asm (c.args.start + c.loop-k.k) ∷ [] =
    c.in_ok-push.ensures.items ∙ (λ i. rows ++ at_row c.args.asm (c.in_ok-row.ensures i) ∷ []) in
    ap (λ (xs : List RowAt). xs ++ map (at_row c.args.asm) (range_with_len (c.args.start + (c.loop-k.k + 1)) (c.args.count - (c.loop-k.k + 1)))) more
    ∙ range_next c.args.asm c.args.start c.loop-k.k c.args.count rows c.loop-k-test.true ∙ c.loop-k.invariant
