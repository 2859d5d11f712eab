use Rattle.std.proofs.Common.{◌≡◌, ◌+◌, ◌-◌, List, [], ◌∷◌, ◌++◌, length, map, ap, ◌∙◌, arith}
use Rattle.std.specs.List.{range_with_len}
use Rattle.rules.specs.declared.link_rules.row_at.RowAt.{RowAt}
use Rattle.rules.specs.link_rules.Types.{at_row}
use Rattle.token_keys.proofs.lemmas.absent_types.Ranging.{range_next}
use Rattle.token_keys.proofs.absent_types.rows.push_rows.Goals as goal

pub loop-k-preserved : goal.loop-k-preserved
loop-k-preserved c =
    let rows = c.loop-k.rows.items in
    let count = length c.args.rec.now.type_ref in
    let more : c.push.new.self.items ≡ rows ++ at_row c.args.asm c.loop-k.k ∷ [] = c.in_ok-push.ensures.items ∙ (λ i. rows ++ at_row c.args.asm (c.in_ok-row.ensures i) ∷ []) in
    ap (λ (xs : List RowAt). xs ++ map (at_row c.args.asm) (range_with_len (c.loop-k.k + 1) (count - (c.loop-k.k + 1)))) more
    ∙ range_next c.args.asm c.loop-k.k count rows (omega (arith, c.loop-k-test.true, c.len-k-end.ensures)) ∙ c.loop-k.invariant
