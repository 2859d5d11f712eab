-- Numbers that pass a test, counted in their order.
use Rattle.std.proofs.Common.{◌≡◌, ◌<◌, ◌≤◌, ℕ, zero, suc, ◌+◌, ◌-◌, Bool, true, false, cond, List, ◌∷◌, length, map, Some, refl, sym, ap, subst, ◌∙◌, arith}
use Rattle.std.specs.Prelude.{slice_get, nat_lt}
use Rattle.std.specs.List.{filter, range_with_len}
use Rattle.std.proofs.lemmas.Bool.{ltb-true, ltb-false}

plus_zero : (n : ℕ) → n ≡ 0 + n
plus_zero n = omega arith

plus_one : (n : ℕ) → suc n ≡ 1 + n
plus_one n = omega arith

module _ (p : ℕ → Bool) where
  -- how many of n numbers from s on pass
  unfoldable pub rank_from : ℕ → ℕ → ℕ
  rank_from s n = length (filter p (range_with_len s n))

  unfoldable pub rank : ℕ → ℕ
  rank n = rank_from 0 n

  one_more : (b : Bool) (s : ℕ) (xs : List ℕ) → length (cond b (s ∷ xs) xs) ≡ cond b 1 0 + length xs
  one_more true s xs = plus_one (length xs)
  one_more false s xs = plus_zero (length xs)

  pub rank_step : (s n : ℕ) → rank_from s (suc n) ≡ cond (p s) 1 0 + rank_from (s + 1) n
  unfolding rank_from
  rank_step s n = one_more (p s) s (filter p (range_with_len (s + 1) n))

  pub rank_none : (s : ℕ) → rank_from s 0 ≡ 0
  unfolding rank_from
  rank_none s = refl

  pub rank_split : (s n m : ℕ) → rank_from s (n + m) ≡ rank_from s n + rank_from (s + n) m
  rank_split s zero m =
      let none = rank_none s in
      let here : rank_from s (0 + m) ≡ rank_from s m = ap (rank_from s) (omega arith) in
      let there : rank_from s m ≡ rank_from (s + 0) m = ap (λ (k : ℕ). rank_from k m) (omega arith) in
      omega (arith, none, here, there)
  rank_split s (suc n) m =
      let one = rank_step s (n + m) in
      let more = rank_split (s + 1) n m in
      let two = rank_step s n in
      let whole : rank_from s (suc n + m) ≡ rank_from s (suc (n + m)) = ap (rank_from s) (omega arith) in
      let place : rank_from (s + 1 + n) m ≡ rank_from (s + suc n) m = ap (λ (k : ℕ). rank_from k m) (omega arith) in
      omega (arith, one, more, two, whole, place)

  pub rank_is : (n : ℕ) → rank n ≡ rank_from 0 n
  unfolding rank
  rank_is n = refl

  pub rank_next : (n : ℕ) → rank (suc n) ≡ rank n + cond (p n) 1 0
  rank_next n =
      let split = rank_split 0 n 1 in
      let one : rank_from n 1 ≡ cond (p n) 1 0 + rank_from (n + 1) 0 = ap (rank_from n) (omega arith) ∙ rank_step n 0 in
      let none = rank_none (n + 1) in
      let whole : rank (suc n) ≡ rank_from 0 (n + 1) = rank_is (suc n) ∙ ap (rank_from 0) (omega arith) in
      let first = rank_is n in
      let place : rank_from (0 + n) 1 ≡ rank_from n 1 = ap (λ (k : ℕ). rank_from k 1) (omega arith) in
      omega (arith, split, one, none, whole, first, place)

  pub rank_kept : (n : ℕ) → p n ≡ true → rank (suc n) ≡ suc (rank n)
  rank_kept n e = rank_next n ∙ ap (λ (b : Bool). rank n + cond b 1 0) e ∙ last (rank n)
    where
      last : (k : ℕ) → k + 1 ≡ suc k
      last k = omega arith

  pub rank_left : (n : ℕ) → p n ≡ false → rank (suc n) ≡ rank n
  rank_left n e = rank_next n ∙ ap (λ (b : Bool). rank n + cond b 1 0) e ∙ last (rank n)
    where
      last : (k : ℕ) → k + 0 ≡ k
      last k = omega arith

  pub rank_rises : (n m : ℕ) → n ≤ m → rank n ≤ rank m
  rank_rises n m le =
      let split = rank_split 0 n (m - n) in
      let whole : rank m ≡ rank_from 0 (n + (m - n)) = rank_is m ∙ ap (rank_from 0) (omega (arith, le)) in
      let first = rank_is n in
      omega (arith, split, whole, first)

  -- those of a stretch have the ranks of that stretch, in order
  ranks_by : (b : Bool) (s n : ℕ) → p s ≡ b → map rank (filter p (range_with_len (s + 1) n)) ≡ range_with_len (rank (s + 1)) (rank_from (s + 1) n)
      → map rank (cond b (s ∷ filter p (range_with_len (s + 1) n)) (filter p (range_with_len (s + 1) n))) ≡ range_with_len (rank s) (cond b 1 0 + rank_from (s + 1) n)
  ranks_by true s n e more =
      let next : rank (s + 1) ≡ rank s + 1 = ap rank (omega arith) ∙ rank_kept s e ∙ omega arith in
      ap (λ (xs : List ℕ). rank s ∷ xs) (more ∙ ap (λ (k : ℕ). range_with_len k (rank_from (s + 1) n)) next) ∙ whole (rank_from (s + 1) n)
    where
      whole : (k : ℕ) → rank s ∷ range_with_len (rank s + 1) k ≡ range_with_len (rank s) (1 + k)
      whole k = let e : 1 + k ≡ suc k = omega arith in ap (range_with_len (rank s)) (sym e)
  ranks_by false s n e more =
      let next : rank (s + 1) ≡ rank s = ap rank (omega arith) ∙ rank_left s e in
      more ∙ ap (λ (k : ℕ). range_with_len k (rank_from (s + 1) n)) next ∙ ap (range_with_len (rank s)) (omega arith)

  pub ranks_are : (s n : ℕ) → map rank (filter p (range_with_len s n)) ≡ range_with_len (rank s) (rank_from s n)
  ranks_are s zero = ap (range_with_len (rank s)) (sym (rank_none s))
  ranks_are s (suc n) = ranks_by (p s) s n refl (ranks_are (s + 1) n) ∙ ap (range_with_len (rank s)) (sym (rank_step s n))

  -- the number at the rank of one that passes
  found_by : (b : Bool) (s n d : ℕ) → p s ≡ b → p (s + d) ≡ true → d < suc n
      → ((c : ℕ) → p (s + 1 + c) ≡ true → c < n → slice_get (filter p (range_with_len (s + 1) n)) (rank_from (s + 1) c) ≡ Some (s + 1 + c))
      → slice_get (cond b (s ∷ filter p (range_with_len (s + 1) n)) (filter p (range_with_len (s + 1) n))) (rank_from s d) ≡ Some (s + d)
  found_by true s n zero e h lt more = first (filter p (range_with_len (s + 1) n)) (rank_from s 0) (rank_none s)
    where
      first : (xs : List ℕ) (k : ℕ) → k ≡ 0 → slice_get (s ∷ xs) k ≡ Some (s + 0)
      first xs k is = ap (slice_get (s ∷ xs)) is ∙ ap Some (omega arith)
  found_by true s n (suc d) e h lt more =
      let place : s + 1 + d ≡ s + suc d = omega arith in
      let one : rank_from s (suc d) ≡ suc (rank_from (s + 1) d) = rank_step s d ∙ ap (λ (b : Bool). cond b 1 0 + rank_from (s + 1) d) e ∙ omega arith in
      ap (slice_get (s ∷ filter p (range_with_len (s + 1) n))) one ∙ more d (subst (λ (k : ℕ). p k ≡ true) (sym place) h) (omega arith) ∙ ap Some place
  found_by false s n zero e h lt more = let same : p (s + 0) ≡ p s = ap p (omega arith) in let bad : true ≡ false = sym h ∙ same ∙ e in absurd (cc)
  found_by false s n (suc d) e h lt more =
      let place : s + 1 + d ≡ s + suc d = omega arith in
      let one : rank_from s (suc d) ≡ rank_from (s + 1) d = rank_step s d ∙ ap (λ (b : Bool). cond b 1 0 + rank_from (s + 1) d) e ∙ omega arith in
      ap (slice_get (filter p (range_with_len (s + 1) n))) one ∙ more d (subst (λ (k : ℕ). p k ≡ true) (sym place) h) (omega arith) ∙ ap Some place

  found_from : (s n d : ℕ) → p (s + d) ≡ true → d < n → slice_get (filter p (range_with_len s n)) (rank_from s d) ≡ Some (s + d)
  found_from s zero d h lt = absurd (omega arith)
  found_from s (suc n) d h lt = found_by (p s) s n d refl h lt (λ c g l. found_from (s + 1) n c g l)

  pub found_at_rank : (all n : ℕ) → p n ≡ true → n < all → slice_get (filter p (range_with_len 0 all)) (rank n) ≡ Some n
  unfolding rank
  found_at_rank all n h lt =
      let z : 0 + n ≡ n = omega arith in
      found_from 0 all n (subst (λ (k : ℕ). p k ≡ true) (sym z) h) lt ∙ ap Some z

  -- those below a bound
  below_step : (b c : Bool) (s bound : ℕ) (xs : List ℕ) → nat_lt s bound ≡ c
      → length (filter (λ x. nat_lt x bound) (cond b (s ∷ xs) xs)) ≡ cond b (cond c 1 0) 0 + length (filter (λ x. nat_lt x bound) xs)
  below_step false c s bound xs e = plus_zero (length (filter (λ x. nat_lt x bound) xs))
  below_step true true s bound xs e =
      ap (λ (t : Bool). length (cond t (s ∷ filter (λ x. nat_lt x bound) xs) (filter (λ x. nat_lt x bound) xs))) e ∙ plus_one (length (filter (λ x. nat_lt x bound) xs))
  below_step true false s bound xs e =
      ap (λ (t : Bool). length (cond t (s ∷ filter (λ x. nat_lt x bound) xs) (filter (λ x. nat_lt x bound) xs))) e ∙ plus_zero (length (filter (λ x. nat_lt x bound) xs))

  none_of : Bool → ℕ
  none_of b = cond b 0 0

  no_more : (b : Bool) → none_of b ≡ 0
  unfolding none_of
  no_more true = refl
  no_more false = refl

  below_by : (c : Bool) (s n bound : ℕ) → nat_lt s bound ≡ c → length (filter (λ x. nat_lt x bound) (filter p (range_with_len (s + 1) n))) ≡ rank_from (s + 1) (bound - (s + 1))
      → length (filter (λ x. nat_lt x bound) (cond (p s) (s ∷ filter p (range_with_len (s + 1) n)) (filter p (range_with_len (s + 1) n)))) ≡ rank_from s (bound - s)
  unfolding none_of
  below_by true s n bound e more =
      let lt : s < bound = ltb-true s bound e in
      let step = below_step (p s) true s bound (filter p (range_with_len (s + 1) n)) e in
      let one = rank_step s (bound - (s + 1)) in
      let place : rank_from s (bound - s) ≡ rank_from s (suc (bound - (s + 1))) = ap (rank_from s) (omega (arith, lt)) in
      step ∙ ap (λ (k : ℕ). cond (p s) 1 0 + k) more ∙ sym one ∙ sym place
  below_by false s n bound e more =
      let le : bound ≤ s = ltb-false s bound e in
      let step = below_step (p s) false s bound (filter p (range_with_len (s + 1) n)) e in
      let here : rank_from s (bound - s) ≡ 0 = ap (rank_from s) (omega (arith, le)) ∙ rank_none s in
      let next : rank_from (s + 1) (bound - (s + 1)) ≡ 0 = ap (rank_from (s + 1)) (omega (arith, le)) ∙ rank_none (s + 1) in
      let zero_more = no_more (p s) in
      let both : none_of (p s) + 0 ≡ 0 = omega (arith, zero_more) in
      step ∙ ap (λ (k : ℕ). none_of (p s) + k) (more ∙ next) ∙ both ∙ sym here

  below_from : (s n bound : ℕ) → bound ≤ s + n → length (filter (λ x. nat_lt x bound) (filter p (range_with_len s n))) ≡ rank_from s (bound - s)
  below_from s zero bound le = sym (ap (rank_from s) (omega arith) ∙ rank_none s)
  below_from s (suc n) bound le = below_by (nat_lt s bound) s n bound refl (below_from (s + 1) n bound (omega arith))

  pub below_is_rank : (all bound : ℕ) → bound ≤ all → length (filter (λ x. nat_lt x bound) (filter p (range_with_len 0 all))) ≡ rank bound
  unfolding rank
  below_is_rank all bound le = let z : bound - 0 ≡ bound = omega arith in below_from 0 all bound (omega (arith, le)) ∙ ap (rank_from 0) z

  pub all_is_rank : (all : ℕ) → length (filter p (range_with_len 0 all)) ≡ rank all
  unfolding rank rank_from
  all_is_rank all = refl
