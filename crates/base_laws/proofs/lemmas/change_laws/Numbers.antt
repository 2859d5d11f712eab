-- A new number leads back to the old one.
use Rattle.std.proofs.Common.{◌≡◌, ◌<◌, ◌≤◌, ◌+◌, ◌-◌, arith, ℕ, zero, suc, List, [], ◌∷◌, Bool, true, false, refl, ap, ◌∙◌}
use Rattle.std.specs.Prelude.{cond, nat_lt, get_or}
use Rattle.std.proofs.lemmas.Bool.{ltb-true, ltb-false, lt-ltb, le-ltb, cond-true, cond-false}
use Rattle.rules.specs.change_rules.Keeping.{rank, place_of, new_number, old_number}

place_rank : (flags : List Bool) (m : ℕ) → get_or flags m false ≡ true → place_of flags (rank flags m) ≡ m
unfolding rank place_of
place_rank [] zero e = cc
place_rank [] (suc m) e = cc
place_rank (true ∷ bs) zero e = refl
place_rank (false ∷ bs) zero e = cc
place_rank (true ∷ bs) (suc m) e = ap suc (place_rank bs m e)
place_rank (false ∷ bs) (suc m) e = ap suc (place_rank bs m e)

rank_below : (flags : List Bool) (m n : ℕ) → get_or flags m false ≡ true → m < n → rank flags m < rank flags n
unfolding rank
rank_below [] zero n e h = cc
rank_below [] (suc m) n e h = cc
rank_below (b ∷ bs) m zero e h = absurd (omega arith)
rank_below (true ∷ bs) zero (suc n) e h = omega arith
rank_below (false ∷ bs) zero (suc n) e h = cc
rank_below (true ∷ bs) (suc m) (suc n) e h = let f : rank bs m < rank bs n = rank_below bs m n e (omega arith) in omega arith
rank_below (false ∷ bs) (suc m) (suc n) e h = rank_below bs m n e (omega arith)

module _ (flags : List Bool) (n c : ℕ) where
  abbrev Kept : ℕ
  Kept = rank flags n

  old_first : (m : ℕ) → m < Kept → old_number flags n c m ≡ place_of flags m
  unfolding old_number
  old_first m h = cond-true (nat_lt m Kept) _ _ (lt-ltb m Kept h)

  old_core : (m : ℕ) → Kept ≤ m → m < Kept + c → old_number flags n c m ≡ n + (m - Kept)
  unfolding old_number
  old_core m h g = cond-false (nat_lt m Kept) _ _ (le-ltb m Kept h) ∙ cond-true (nat_lt m (Kept + c)) _ _ (lt-ltb m (Kept + c) g)

  old_gone : (m : ℕ) → Kept + c ≤ m → m < Kept + c + n → old_number flags n c m ≡ m - (Kept + c)
  unfolding old_number
  old_gone m h g =
      cond-false (nat_lt m Kept) _ _ (le-ltb m Kept (omega arith)) ∙ cond-false (nat_lt m (Kept + c)) _ _ (le-ltb m (Kept + c) h)
      ∙ cond-true (nat_lt m (Kept + c + n)) _ _ (lt-ltb m (Kept + c + n) g)

  old_past : (m : ℕ) → Kept + c + n ≤ m → old_number flags n c m ≡ m - Kept
  unfolding old_number
  old_past m h =
      cond-false (nat_lt m Kept) _ _ (le-ltb m Kept (omega arith)) ∙ cond-false (nat_lt m (Kept + c)) _ _ (le-ltb m (Kept + c) (omega arith))
      ∙ cond-false (nat_lt m (Kept + c + n)) _ _ (le-ltb m (Kept + c + n) h)

  back_by : (m : ℕ) (input kept core : Bool) → nat_lt m n ≡ input → get_or flags m false ≡ kept → nat_lt m (n + c) ≡ core
      → old_number flags n c (cond input (cond kept (rank flags m) (Kept + c + m)) (cond core (Kept + (m - n)) (Kept + m))) ≡ m
  back_by m true true core a b d = old_first (rank flags m) (rank_below flags m n b (ltb-true m n a)) ∙ place_rank flags m b
  back_by m true false core a b d = let h : m < n = ltb-true m n a in let e : (Kept + c + m) - (Kept + c) ≡ m = omega arith in old_gone (Kept + c + m) (omega arith) (omega arith) ∙ e
  back_by m false kept true a b d =
      let h : n ≤ m = ltb-false m n a in
      let g : m < n + c = ltb-true m (n + c) d in
      let e : n + ((Kept + (m - n)) - Kept) ≡ m = omega arith in
      old_core (Kept + (m - n)) (omega arith) (omega arith) ∙ e
  back_by m false kept false a b d = let g : n + c ≤ m = ltb-false m (n + c) d in let e : (Kept + m) - Kept ≡ m = omega arith in old_past (Kept + m) (omega arith) ∙ e

  pub old_of_new : (m : ℕ) → old_number flags n c (new_number flags n c m) ≡ m
  unfolding new_number
  old_of_new m = back_by m (nat_lt m n) (get_or flags m false) (nat_lt m (n + c)) refl refl refl
