-- What grows in rounds holds all that it leads to after as many rounds as it can have items.
use Rattle.std.proofs.Common.{◌≡◌, ℕ, zero, suc, ◌+◌, ◌-◌, ◌<◌, ◌≤◌, Bool, true, false, List, [], ◌∷◌, ◌⊎◌, inl, inr, refl, sym, ap, subst, ◌∙◌, arith}
use Rattle.std.specs.Prelude.{◌==◌, ◌||◌}
use Rattle.std.specs.Bool.{Decides}
use Rattle.std.specs.List.{list_any, flat_map}
use Rattle.std.proofs.lemmas.Bool.{eqb-true, eq-eqb}
use Rattle.rules.specs.link_rules.Cycles.{add_all, led_to}
use Rattle.base_laws.proofs.lemmas.type_laws.Within.{In, in_any, any_in, in_kept, in_added, flat_in}
use Rattle.base_laws.proofs.lemmas.type_laws.Reaching.{found}
use Rattle.base_laws.proofs.lemmas.walk_laws.Chains.{stays, in_turn}
use Rattle.flow_laws.proofs.lemmas.Counting.{missing, within, fewer}

-- ---- items by their numbers

module _ {A : Type 0} (number : A → ℕ) where
  abbrev pub has : List A → ℕ → Bool
  has xs j = list_any (λ x. number x == j) xs

  has_by : (x : A) (j : ℕ) (xs : List A) (b : Bool) → (number x == j) ≡ b → (list_any (λ x. number x == j) xs ≡ true → (y : A) × In y xs × (number y ≡ j))
      → (b || list_any (λ x. number x == j) xs) ≡ true → (y : A) × In y (x ∷ xs) × (number y ≡ j)
  has_by x j xs true is more e = (x, inl refl, eqb-true (number x) j is)
  has_by x j xs false is more e = let m = more e in (m.0, inr m.1, m.2)

  pub has_to : (xs : List A) (j : ℕ) → has xs j ≡ true → (y : A) × In y xs × (number y ≡ j)
  has_to [] j e = absurd (cc)
  has_to (x ∷ xs) j e = has_by x j xs (number x == j) refl (has_to xs j) e

  or_true : (a b : Bool) → b ≡ true → (a || b) ≡ true
  or_true true b e = refl
  or_true false b e = e

  front_true : (a b : Bool) → a ≡ true → (a || b) ≡ true
  front_true true b e = refl
  front_true false b e = absurd (cc)

  pub has_from : (xs : List A) (x : A) → In x xs → has xs (number x) ≡ true
  has_from [] x h = absurd h
  has_from (y ∷ xs) x (inl e) = front_true (number y == number x) (has xs (number x)) (eq-eqb (number y) (number x) (ap number (sym e)))
  has_from (y ∷ xs) x (inr h) = or_true (number y == number x) (has xs (number x)) (has_from xs x h)

  pub has_more : (xs ys : List A) → ((x : A) → In x xs → In x ys) → (j : ℕ) → has xs j ≡ true → has ys j ≡ true
  has_more xs ys into j e = let m = has_to xs j e in subst (λ (k : ℕ). has ys k ≡ true) m.2 (has_from ys m.0 (into m.0 m.1))

-- ---- rounds

abbrev pub Closed : {A : Type 0} → (A → List A) → List A → Type 0
Closed {A} next xs = (x y : A) → In x xs → In y (next x) → In y xs

module _ {A : Type 0} (same : A → A → Bool) (decides : (x y : A) → Decides (same x y) (x ≡ y)) where
  all_by : (xs ys : List A) (y : A) (b : Bool) → list_any (same y) xs ≡ b → (((z : A) → In z ys → In z xs) ⊎ ((z : A) × In z ys × (list_any (same z) xs ≡ false)))
      → ((z : A) → In z (y ∷ ys) → In z xs) ⊎ ((z : A) × In z (y ∷ ys) × (list_any (same z) xs ≡ false))
  all_by xs ys y false e rest = inr (y, inl refl, e)
  all_by xs ys y true e (inr new) = inr (new.0, inr new.1, new.2)
  all_by xs ys y true e (inl all) = inl each
    where
      each : (z : A) → In z (y ∷ ys) → In z xs
      each z (inl f) = subst (λ (a : A). In a xs) (sym f) (in_any same decides y xs e)
      each z (inr h) = all z h

  -- each of some items is there, or one isn't
  pub all_or_new : (xs ys : List A) → ((z : A) → In z ys → In z xs) ⊎ ((z : A) × In z ys × (list_any (same z) xs ≡ false))
  all_or_new xs [] = inl (λ z h. absurd h)
  all_or_new xs (y ∷ ys) = all_by xs ys y (list_any (same y) xs) refl (all_or_new xs ys)

  module _ (next : A → List A) where
    one_step : (xs : List A) → led_to same next 1 xs ≡ add_all same xs (flat_map next xs)
    unfolding led_to
    one_step xs = refl

    no_step : (xs : List A) → led_to same next 0 xs ≡ xs
    unfolding led_to
    no_step xs = refl

    one_round : (n : ℕ) (xs : List A) → led_to same next (suc n) xs ≡ add_all same (led_to same next n xs) (flat_map next (led_to same next n xs))
    one_round n xs =
        let e : suc n ≡ n + 1 = omega arith in
        ap (λ (m : ℕ). led_to same next m xs) e ∙ in_turn same decides next n 1 xs ∙ one_step (led_to same next n xs)

    module _ (number : A → ℕ) (size : ℕ) (xs : List A) (fits : (x : A) → In x (led_to same next size xs) → number x < size)
        (one : (x y : A) → In x (led_to same next size xs) → In y (led_to same next size xs) → number x ≡ number y → x ≡ y) where
      abbrev after : ℕ → List A
      after n = led_to same next n xs

      abbrev left : ℕ → ℕ
      left n = missing size (has number (led_to same next n xs))

      into : (n : ℕ) (x : A) → n ≤ size → In x (after n) → In x (after size)
      into n x le h =
          let k : ℕ = size - n in
          let e : n + k ≡ size = omega arith in
          subst (λ (m : ℕ). In x (led_to same next m xs)) e
          (subst (λ (ys : List A). In x ys) (sym (in_turn same decides next n k xs)) (found same decides next k 0 x x (after n) (omega arith) h refl))

      abbrev Is : ℕ → Type 0
      Is n = Closed next (led_to same next n xs) ⊎ (suc n + missing size (has number (led_to same next n xs)) ≤ size)

      closed_next : (n : ℕ) → Closed next (after n) → Closed next (after (suc n))
      closed_next n c =
          let e : led_to same next (n + 1) xs ≡ led_to same next 1 (after n) = in_turn same decides next n 1 xs in
          let f : suc n ≡ n + 1 = omega arith in
          subst (λ (ys : List A). Closed next ys) (sym (ap (λ (m : ℕ). led_to same next m xs) f ∙ e ∙ stays same decides next 1 (after n) c)) c

      kept : (n : ℕ) (x : A) → In x (after n) → In x (after (suc n))
      kept n x h = subst (λ (ys : List A). In x ys) (sym (one_round n xs)) (in_kept same decides x (after n) (flat_map next (after n)) h)

      added : (n : ℕ) (x : A) → In x (flat_map next (after n)) → In x (after (suc n))
      added n x h = subst (λ (ys : List A). In x ys) (sym (one_round n xs)) (in_added same decides x (after n) (flat_map next (after n)) h)

      -- a number that no item has yet
      unseen : (n : ℕ) → n < size → (y : A) → In y (after (suc n)) → list_any (same y) (after n) ≡ false → (b : Bool) → has number (after n) (number y) ≡ b → b ≡ false
      unseen n lt y h new false e = refl
      unseen n lt y h new true e =
          let m = has_to number (after n) (number y) e in
          let is : m.0 ≡ y = one m.0 y (into n m.0 (omega arith) m.1) (into (suc n) y (omega arith) h) m.2 in
          let there : list_any (same y) (after n) ≡ true = any_in same decides y (after n) (subst (λ (a : A). In a (after n)) is m.1) in
          absurd (cc)

      grown : (n : ℕ) → n < size → (y : A) → In y (flat_map next (after n)) → list_any (same y) (after n) ≡ false → left (suc n) < left n
      grown n lt y h new =
          let there : In y (after (suc n)) = added n y h in
          fewer size (has number (after n)) (has number (after (suc n))) (has_more number (after n) (after (suc n)) (kept n)) (number y) (fits y (into (suc n) y (omega arith) there))
          (unseen n lt y there new (has number (after n) (number y)) refl) (has_from number (after (suc n)) y there)

      round_by : (n : ℕ) → n < size → suc n + left n ≤ size → (((z : A) → In z (flat_map next (after n)) → In z (after n)) ⊎ ((z : A) × In z (flat_map next (after n)) × (list_any (same z) (after n) ≡ false))) → Is (suc n)
      round_by n lt le (inl all) = inl (closed_next n (λ x y h g. all y (flat_in next y x (after n) h g)))
      round_by n lt le (inr new) = let less = grown n lt new.0 new.1 new.2 in inr (omega (arith, le, less))

      round : (n : ℕ) → n < size → Is n → Is (suc n)
      round n lt (inl c) = inl (closed_next n c)
      round n lt (inr le) = round_by n lt le (all_or_new (after n) (flat_map next (after n)))

      start_by : (ys : List A) → ys ≡ after 0 → Is 0
      start_by [] e = inl (subst (λ (zs : List A). Closed next zs) e (λ x y h g. absurd h))
      start_by (y ∷ ys) e =
          let there : In y (after 0) = subst (λ (zs : List A). In y zs) e (inl refl) in
          let below : number y < size = fits y (into 0 y (omega arith) there) in
          let less = fewer size (λ j. false) (has number (after 0)) (λ j f. absurd (cc)) (number y) below refl (has_from number (after 0) y there) in
          let most = within size (λ j. false) in
          inr (omega (arith, less, most))

      all_rounds : (n : ℕ) → n ≤ size → Is n
      all_rounds zero le = start_by (after 0) refl
      all_rounds (suc n) le = round n (omega arith) (all_rounds n (omega arith))

      last : Is size → Closed next (led_to same next size xs)
      last (inl c) = c
      last (inr le) = absurd (omega arith)

      pub closed : Closed next (led_to same next size xs)
      closed = last (all_rounds size (omega arith))
