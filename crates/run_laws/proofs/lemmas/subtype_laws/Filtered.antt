-- A search in rounds among items of which some go, with all that they lead to: what is kept of what it finds is what the search among
-- kept items finds.
use Rattle.std.proofs.Common.{◌≡◌, ℕ, zero, suc, Bool, true, false, List, [], ◌∷◌, ◌++◌, map, ◌⊎◌, inl, inr, refl, sym, ap, ◌∙◌}
use Rattle.std.specs.Prelude.{◌||◌, if◌then◌else◌}
use Rattle.std.specs.Bool.{Decides}
use Rattle.std.specs.List.{list_any, flat_map, filter}
use Rattle.std.proofs.lemmas.Bool.{true≢false}
use Rattle.std.proofs.lemmas.List.{append-nil, map-append}
use Rattle.rules.specs.link_rules.Cycles.{add_new, add_all, led_to}
use Rattle.base_laws.proofs.lemmas.type_laws.Within.{In, in_flat, added_from}

module _ {A : Type 0} (K : A → Bool) where
  both_by : (x : A) (xs ys : List A) (b : Bool) → filter K (xs ++ ys) ≡ filter K xs ++ filter K ys
      → (if b then x ∷ filter K (xs ++ ys) else filter K (xs ++ ys)) ≡ (if b then x ∷ filter K xs else filter K xs) ++ filter K ys
  both_by x xs ys true e = ap (λ (zs : List A). x ∷ zs) e
  both_by x xs ys false e = e

  pub filter_both : (xs ys : List A) → filter K (xs ++ ys) ≡ filter K xs ++ filter K ys
  filter_both [] ys = refl
  filter_both (x ∷ xs) ys = both_by x xs ys (K x) (filter_both xs ys)

  pub filter_none : (xs : List A) → ((x : A) → In x xs → K x ≡ false) → filter K xs ≡ []
  filter_none [] h = refl
  filter_none (x ∷ xs) h = ap (λ (b : Bool). if b then x ∷ filter K xs else filter K xs) (h x (inl refl)) ∙ filter_none xs (λ y i. h y (inr i))

  in_kept_by : (y x : A) (xs : List A) (b : Bool) → K x ≡ b → (In y (filter K xs) → K y ≡ true) → In y (if b then x ∷ filter K xs else filter K xs) → K y ≡ true
  in_kept_by y x xs true s more (inl e) = ap K e ∙ s
  in_kept_by y x xs true s more (inr i) = more i
  in_kept_by y x xs false s more i = more i

  -- what is left is kept
  pub in_kept : (y : A) (xs : List A) → In y (filter K xs) → K y ≡ true
  in_kept y [] i = absurd i
  in_kept y (x ∷ xs) i = in_kept_by y x xs (K x) refl (in_kept y xs) i

  pub filter_all : (xs : List A) → ((x : A) → In x xs → K x ≡ true) → filter K xs ≡ xs
  filter_all [] h = refl
  filter_all (x ∷ xs) h =
      ap (λ (b : Bool). if b then x ∷ filter K xs else filter K xs) (h x (inl refl)) ∙ ap (λ (zs : List A). x ∷ zs) (filter_all xs (λ y i. h y (inr i)))

-- what is so of all that an item leads to, where a step keeps it so
module _ {A : Type 0} (same : A → A → Bool) (decides : (x y : A) → Decides (same x y) (x ≡ y)) (next : A → List A) (P : A → Type 0) (stays : (x y : A) → P x → In y (next x) → P y) where
  all_of_by : (xs ys : List A) → ((x : A) → In x xs → P x) → ((x : A) → In x ys → P x) → (x : A) → In x xs ⊎ In x ys → P x
  all_of_by xs ys h g x (inl i) = h x i
  all_of_by xs ys h g x (inr i) = g x i

  pub all_of_led : (n : ℕ) (xs : List A) → ((x : A) → In x xs → P x) → (x : A) → In x (led_to same next n xs) → P x
  unfolding led_to
  all_of_led zero xs h x i = h x i
  all_of_led (suc n) xs h x i =
      all_of_led n (add_all same xs (flat_map next xs))
      (λ y j. all_of_by xs (flat_map next xs) h (λ z l. let m = in_flat next z xs l in stays m.0 z (h m.0 m.1) m.2) y (added_from same decides y xs (flat_map next xs) j)) x i

module _ {A : Type 0} (same : A → A → Bool) (decides : (x y : A) → Decides (same x y) (x ≡ y)) (K : A → Bool) where
  -- ---- lists that grow

  differs_by : (x y : A) (b : Bool) → same y x ≡ b → K y ≡ true → K x ≡ false → b ≡ false
  differs_by x y true is h g = absurd (true≢false (sym h ∙ ap K ((decides y x).0 is) ∙ g))
  differs_by x y false is h g = refl

  any_by : (x y : A) (xs : List A) (b : Bool) → K x ≡ b → K y ≡ true → list_any (same y) (filter K xs) ≡ list_any (same y) xs
      → list_any (same y) (if b then x ∷ filter K xs else filter K xs) ≡ (same y x || list_any (same y) xs)
  any_by x y xs true is h e = ap (λ (c : Bool). same y x || c) e
  any_by x y xs false is h e = e ∙ sym (ap (λ (c : Bool). c || list_any (same y) xs) (differs_by x y (same y x) refl h is))

  -- a kept item is among the kept ones where it is among all
  pub any_kept : (y : A) (xs : List A) → K y ≡ true → list_any (same y) (filter K xs) ≡ list_any (same y) xs
  any_kept y [] h = refl
  any_kept y (x ∷ xs) h = any_by x y xs (K x) refl h (any_kept y xs h)

  other_by : (x y : A) (xs : List A) (b : Bool) → K x ≡ b → (K x ≡ false → same y x ≡ false) → list_any (same y) (filter K xs) ≡ list_any (same y) xs
      → list_any (same y) (if b then x ∷ filter K xs else filter K xs) ≡ (same y x || list_any (same y) xs)
  other_by x y xs true is h e = ap (λ (c : Bool). same y x || c) e
  other_by x y xs false is h e = e ∙ sym (ap (λ (c : Bool). c || list_any (same y) xs) (h is))

  -- so is one that is none of those that go
  pub any_other : (y : A) (xs : List A) → ((x : A) → In x xs → K x ≡ false → same y x ≡ false) → list_any (same y) (filter K xs) ≡ list_any (same y) xs
  any_other y [] h = refl
  any_other y (x ∷ xs) h = other_by x y xs (K x) refl (h x (inl refl)) (any_other y xs (λ z i. h z (inr i)))

  kept_one : (xs : List A) (y : A) (c : Bool) → K y ≡ true → filter K (if c then xs else xs ++ y ∷ []) ≡ (if c then filter K xs else filter K xs ++ y ∷ [])
  kept_one xs y true h = refl
  kept_one xs y false h = filter_both K xs (y ∷ []) ∙ ap (λ (b : Bool). filter K xs ++ (if b then y ∷ [] else [])) h

  gone_one : (xs : List A) (y : A) (c : Bool) → K y ≡ false → filter K (if c then xs else xs ++ y ∷ []) ≡ filter K xs
  gone_one xs y true h = refl
  gone_one xs y false h = filter_both K xs (y ∷ []) ∙ ap (λ (b : Bool). filter K xs ++ (if b then y ∷ [] else [])) h ∙ append-nil (filter K xs)

  added_by : (xs ys : List A) (y : A) (b : Bool) → K y ≡ b → filter K (add_all same (add_new same xs y) ys) ≡ add_all same (filter K (add_new same xs y)) (filter K ys)
      → filter K (add_all same (add_new same xs y) ys) ≡ add_all same (filter K xs) (if b then y ∷ filter K ys else filter K ys)
  added_by xs ys y true h e =
      e ∙ ap (λ (zs : List A). add_all same zs (filter K ys))
      (kept_one xs y (list_any (same y) xs) h ∙ ap (λ (c : Bool). if c then filter K xs else filter K xs ++ y ∷ []) (sym (any_kept y xs h)))
  added_by xs ys y false h e = e ∙ ap (λ (zs : List A). add_all same zs (filter K ys)) (gone_one xs y (list_any (same y) xs) h)

  pub added_kept : (xs ys : List A) → filter K (add_all same xs ys) ≡ add_all same (filter K xs) (filter K ys)
  added_kept xs [] = refl
  added_kept xs (y ∷ ys) = added_by xs ys y (K y) refl (added_kept (add_new same xs y) ys)

  -- ---- the search

  module _ (next next' : A → List A) (Gone : A → Type 0) (steps : (x : A) → K x ≡ true → filter K (next x) ≡ next' x) (splits : (x y : A) → K x ≡ true → In y (next x) → (K y ≡ true) ⊎ Gone y)
      (unkept : (x : A) → Gone x → K x ≡ false) (stays : (x y : A) → Gone x → In y (next x) → Gone y) where
    -- each is kept, or goes with all that it leads to
    abbrev pub Split : List A → Type 0
    Split xs = (x : A) → In x xs → (K x ≡ true) ⊎ Gone x

    flat_by : (x : A) (xs : List A) → (K x ≡ true) ⊎ Gone x → filter K (flat_map next xs) ≡ flat_map next' (filter K xs)
        → filter K (next x ++ flat_map next xs) ≡ flat_map next' (if K x then x ∷ filter K xs else filter K xs)
    flat_by x xs (inl h) e =
        filter_both K (next x) (flat_map next xs) ∙ (λ i. steps x h i ++ e i) ∙ sym (ap (λ (b : Bool). flat_map next' (if b then x ∷ filter K xs else filter K xs)) h)
    flat_by x xs (inr g) e =
        filter_both K (next x) (flat_map next xs) ∙ ap (λ (zs : List A). zs ++ filter K (flat_map next xs)) (filter_none K (next x) (λ y i. unkept y (stays x y g i))) ∙ e
        ∙ sym (ap (λ (b : Bool). flat_map next' (if b then x ∷ filter K xs else filter K xs)) (unkept x g))

    pub flat_kept : (xs : List A) → Split xs → filter K (flat_map next xs) ≡ flat_map next' (filter K xs)
    flat_kept [] s = refl
    flat_kept (x ∷ xs) s = flat_by x xs (s x (inl refl)) (flat_kept xs (λ y i. s y (inr i)))

    next_by : (x y : A) → (K x ≡ true) ⊎ Gone x → In y (next x) → (K y ≡ true) ⊎ Gone y
    next_by x y (inl h) i = splits x y h i
    next_by x y (inr g) i = inr (stays x y g i)

    pub split_flat : (xs : List A) → Split xs → Split (flat_map next xs)
    split_flat xs s y i = let m = in_flat next y xs i in next_by m.0 y (s m.0 m.1) m.2

    split_by : (xs ys : List A) → Split xs → Split ys → (x : A) → In x xs ⊎ In x ys → (K x ≡ true) ⊎ Gone x
    split_by xs ys s t x (inl i) = s x i
    split_by xs ys s t x (inr i) = t x i

    split_added : (xs ys : List A) → Split xs → Split ys → Split (add_all same xs ys)
    split_added xs ys s t x i = split_by xs ys s t x (added_from same decides x xs ys i)

    pub led_split : (n : ℕ) (xs : List A) → Split xs → Split (led_to same next n xs)
    unfolding led_to
    led_split zero xs s = s
    led_split (suc n) xs s = led_split n (add_all same xs (flat_map next xs)) (split_added xs (flat_map next xs) s (split_flat xs s))

    pub led_kept : (n : ℕ) (xs : List A) → Split xs → filter K (led_to same next n xs) ≡ led_to same next' n (filter K xs)
    unfolding led_to
    led_kept zero xs s = refl
    led_kept (suc n) xs s =
        led_kept n (add_all same xs (flat_map next xs)) (split_added xs (flat_map next xs) s (split_flat xs s))
        ∙ ap (led_to same next' n) (added_kept xs (flat_map next xs) ∙ ap (add_all same (filter K xs)) (flat_kept xs s))

-- ---- under a map that keeps items apart

module _ {A : Type 0} (same : A → A → Bool) (f : A → A) (apart : (x y : A) → same (f x) (f y) ≡ same x y) where
  pub any_moved : (y : A) (xs : List A) → list_any (same (f y)) (map f xs) ≡ list_any (same y) xs
  any_moved y [] = refl
  any_moved y (x ∷ xs) = λ i. apart y x i || any_moved y xs i

  new_by : (xs : List A) (y : A) (b : Bool) → (if b then map f xs else map f xs ++ f y ∷ []) ≡ map f (if b then xs else xs ++ y ∷ [])
  new_by xs y true = refl
  new_by xs y false = sym (map-append f xs (y ∷ []))

  new_moved : (xs : List A) (y : A) → add_new same (map f xs) (f y) ≡ map f (add_new same xs y)
  new_moved xs y = ap (λ (b : Bool). if b then map f xs else map f xs ++ f y ∷ []) (any_moved y xs) ∙ new_by xs y (list_any (same y) xs)

  added_moved : (xs ys : List A) → add_all same (map f xs) (map f ys) ≡ map f (add_all same xs ys)
  added_moved xs [] = refl
  added_moved xs (y ∷ ys) = ap (λ (zs : List A). add_all same zs (map f ys)) (new_moved xs y) ∙ added_moved (add_new same xs y) ys

  module _ (decides : (x y : A) → Decides (same x y) (x ≡ y)) (K : A → Bool) (next moved : A → List A) (moves : (x : A) → K x ≡ true → moved (f x) ≡ map f (next x)) (keeps : (x y : A) → K x ≡ true → In y (next x) → K y ≡ true) where
    abbrev pub Kept : List A → Type 0
    Kept xs = (x : A) → In x xs → K x ≡ true

    pub flat_moved : (xs : List A) → Kept xs → flat_map moved (map f xs) ≡ map f (flat_map next xs)
    flat_moved [] h = refl
    flat_moved (x ∷ xs) h = (λ i. moves x (h x (inl refl)) i ++ flat_moved xs (λ y j. h y (inr j)) i) ∙ sym (map-append f (next x) (flat_map next xs))

    flat_keeps : (xs : List A) → Kept xs → Kept (flat_map next xs)
    flat_keeps xs h y i = let m = in_flat next y xs i in keeps m.0 y (h m.0 m.1) m.2

    kept_by : (xs ys : List A) → Kept xs → Kept ys → (x : A) → In x xs ⊎ In x ys → K x ≡ true
    kept_by xs ys h g x (inl i) = h x i
    kept_by xs ys h g x (inr i) = g x i

    pub led_moved : (n : ℕ) (xs : List A) → Kept xs → led_to same moved n (map f xs) ≡ map f (led_to same next n xs)
    unfolding led_to
    led_moved zero xs h = refl
    led_moved (suc n) xs h =
        ap (led_to same moved n) (ap (add_all same (map f xs)) (flat_moved xs h) ∙ added_moved xs (flat_map next xs))
        ∙ led_moved n (add_all same xs (flat_map next xs)) (λ x i. kept_by xs (flat_map next xs) h (flat_keeps xs h) x (added_from same decides x xs (flat_map next xs) i))
