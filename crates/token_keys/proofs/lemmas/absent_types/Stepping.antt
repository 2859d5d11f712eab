-- One step over the scopes of two rows.
use Rattle.std.proofs.Common.{◌≡◌, ℕ, suc, List, Bool, false, refl, sym, ap, ◌∙◌}
use Rattle.il_base.specs.declared.world_model.record.AsmRec.{AsmRec}
use Rattle.rules.specs.declared.link_rules.row_at.RowAt.{RowAt}
use Rattle.rules.specs.merge_rules.Absent.{reference_at, rows_same, reads_same}
use Rattle.token_keys.specs.declared.absent_types.scopes.Step.{Step}
use Rattle.token_keys.specs.absent_types.Steps.{says}

one_step : (recs : List AsmRec) (n : ℕ) (x y : RowAt) → reads_same recs (suc n) x y ≡ rows_same recs (reads_same recs n) x y (reference_at recs x) (reference_at recs y)
unfolding reads_same
one_step recs n x y = refl

pub step_same : (recs : List AsmRec) (m n : ℕ) (x y : RowAt) (found s : Step) → m ≡ suc n → found ≡ s
    → ((reads : RowAt → RowAt → Bool) → says reads found ≡ rows_same recs reads x y (reference_at recs x) (reference_at recs y)) → says (reads_same recs n) s ≡ reads_same recs m x y
step_same recs m n x y found s e f law =
    ap (says (reads_same recs n)) (sym f) ∙ law (reads_same recs n) ∙ sym (one_step recs n x y) ∙ ap (λ (k : ℕ). reads_same recs k x y) (sym e)

none_left : (recs : List AsmRec) (x y : RowAt) → reads_same recs 0 x y ≡ false
unfolding reads_same
none_left recs x y = refl

pub no_step : (recs : List AsmRec) (m : ℕ) (x y : RowAt) → m ≡ 0 → false ≡ reads_same recs m x y
no_step recs m x y e = sym (ap (λ (k : ℕ). reads_same recs k x y) e ∙ none_left recs x y)
