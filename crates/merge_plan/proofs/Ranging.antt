-- Rows of one assembly and of all inputs, in order.
use Rattle.std.proofs.Common.{◌≡◌, ℕ, suc, ◌+◌, ◌-◌, ◌<◌, ◌≤◌, List, [], ◌∷◌, ◌++◌, length, map, take, drop, get_or, refl, sym, ap, ◌∙◌, arith, append_assoc, drop-cons}
use Rattle.std.specs.List.{flat_map, range_with_len}
use Rattle.std.proofs.lemmas.List.{append-nil, drop_all}
use Rattle.il_base.specs.declared.world_model.record.AsmRec.{AsmRec}
use Rattle.rules.specs.declared.link_rules.row_at.RowAt.{RowAt}
use Rattle.rules.specs.link_rules.Types.{at_row}
use Rattle.rules.specs.merge_rules.Numbers.{inputs_from, inputs}
use Rattle.merge_plan.specs.Kept.{all_from}

-- ---- the rows from a place on

pub range_next : (asm start i count : ℕ) (xs : List RowAt) → i < count
    → (xs ++ at_row asm (start + i) ∷ []) ++ map (at_row asm) (range_with_len (start + (i + 1)) (count - (i + 1))) ≡ xs ++ map (at_row asm) (range_with_len (start + i) (count - i))
range_next asm start i count xs below =
    let e : count - i ≡ suc (count - (i + 1)) = omega arith in
    let f : start + (i + 1) ≡ start + i + 1 = omega arith in
    rw (e, f) (append_assoc xs (at_row asm (start + i) ∷ []) (map (at_row asm) (range_with_len (start + i + 1) (count - (i + 1)))))

pub range_end : (asm start i count : ℕ) (xs : List RowAt) → count ≤ i → xs ++ map (at_row asm) (range_with_len (start + i) (count - i)) ≡ xs
range_end asm start i count xs past = let e : count - i ≡ 0 = omega arith in rw e (append-nil xs)

-- ---- assembly by assembly

module _ {B : Type 0} (f : ℕ → AsmRec → List B) where
  pub all_next : (recs : List AsmRec) (i : ℕ) (rec : AsmRec) → i < length recs → rec ≡ get_or recs i rec → all_from f i (drop i recs) ≡ f i rec ++ all_from f (i + 1) (drop (i + 1) recs)
  all_next recs i rec below is =
      let one : i + 1 ≡ suc i = omega arith in
      let front : drop i recs ≡ rec ∷ drop (suc i) recs = drop-cons recs i rec below ∙ ap (λ (r : AsmRec). r ∷ drop (suc i) recs) (sym is) in
      rw (front, one) refl

  pub all_none : (recs : List AsmRec) (i : ℕ) → length recs ≤ i → all_from f i (drop i recs) ≡ []
  all_none recs i past = rw (drop_all i recs past) refl

  -- one assembly more
  pub all_step : (recs : List AsmRec) (i : ℕ) (rec : AsmRec) (old new whole : List B) → i < length recs → rec ≡ get_or recs i rec → new ≡ old ++ f i rec
      → old ++ all_from f i (drop i recs) ≡ whole → new ++ all_from f (i + 1) (drop (i + 1) recs) ≡ whole
  all_step recs i rec old new whole below is more e =
      ap (λ (xs : List B). xs ++ all_from f (i + 1) (drop (i + 1) recs)) more ∙ append_assoc old (f i rec) (all_from f (i + 1) (drop (i + 1) recs))
      ∙ ap (λ (xs : List B). old ++ xs) (sym (all_next recs i rec below is)) ∙ e

  from_a : (a : ℕ) (recs : List AsmRec) → all_from f a (take (length recs - 1) recs) ≡ flat_map (λ (x : ℕ × AsmRec). f x.0 x.1) (inputs_from a recs)
  from_a a [] = refl
  from_a a (rec ∷ []) = refl
  from_a a (rec ∷ next ∷ recs) =
      let e : length (rec ∷ next ∷ recs) - 1 ≡ suc (length (next ∷ recs) - 1) = omega arith in
      let one : a + 1 ≡ suc a = omega arith in
      rw (e, one) (ap (λ (rows : List B). f a rec ++ rows) (from_a (suc a) (next ∷ recs)))

  -- those of all inputs
  pub all_are : (recs : List AsmRec) → all_from f 0 (take (length recs - 1) recs) ≡ flat_map (λ (x : ℕ × AsmRec). f x.0 x.1) (inputs recs)
  all_are recs = from_a 0 recs

  -- at the end of the loop over all inputs
  pub all_end : (recs items : List AsmRec) (i : ℕ) (out : List B) → items ≡ take (length recs - 1) recs → length items ≤ i → out ++ all_from f i (drop i items) ≡ all_from f 0 items
      → out ≡ flat_map (λ (x : ℕ × AsmRec). f x.0 x.1) (inputs recs)
  all_end recs items i out same past e =
      sym (append-nil out) ∙ ap (λ (xs : List B). out ++ xs) (sym (all_none items i past)) ∙ e ∙ ap (all_from f 0) same ∙ all_are recs
