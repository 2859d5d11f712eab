use Rattle.std.proofs.Common.{◌≡◌, ℕ, suc, ◌+◌, ◌-◌, ◌<◌, ◌≤◌, List, [], ◌∷◌, ◌++◌, map, refl, sym, ap, ◌∙◌, arith, append_assoc}
use Rattle.std.specs.List.{range_with_len}
use Rattle.std.proofs.lemmas.List.{append-nil}
use Rattle.rules.specs.declared.link_rules.row_at.RowAt.{RowAt}
use Rattle.rules.specs.link_rules.Types.{at_row}
use Rattle.mark_parts.proofs.mark_rows.runs.add_rows.Goals as goal

one_more : (asm : ℕ) (rows : List RowAt) (k end : ℕ) → k < end
    → (rows ++ at_row asm k ∷ []) ++ map (at_row asm) (range_with_len (k + 1) (end - (k + 1))) ≡ rows ++ map (at_row asm) (range_with_len k (end - k))
one_more asm rows k end below =
    let n : end - k ≡ suc (end - (k + 1)) = omega arith in
    append_assoc rows (at_row asm k ∷ []) (map (at_row asm) (range_with_len (k + 1) (end - (k + 1)))) ∙ ap (λ (m : ℕ). rows ++ map (at_row asm) (range_with_len k m)) (sym n)

all_put : (asm : ℕ) (rows : List RowAt) (k end : ℕ) → end ≤ k → rows ++ map (at_row asm) (range_with_len k (end - k)) ≡ rows
all_put asm rows k end done =
    let n : end - k ≡ 0 = omega arith in
    ap (λ (m : ℕ). rows ++ map (at_row asm) (range_with_len k m)) n ∙ append-nil rows

pub loop-row-preserved : goal.loop-row-preserved
loop-row-preserved c = rw c.in_ok-push.ensures.items (one_more c.args.asm c.loop-row.rows.items c.loop-row.row c.args.end c.loop-row-test.true ∙ c.loop-row.invariant)

pub returns : goal.returns
returns c = sym (all_put c.args.asm c.loop-row.rows.items c.loop-row.row c.args.end c.loop-row-test.false) ∙ c.loop-row.invariant
