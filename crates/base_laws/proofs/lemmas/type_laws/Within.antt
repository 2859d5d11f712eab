-- Items of a list.
use Rattle.std.proofs.Common.{◌≡◌, Bool, true, false, List, [], ◌∷◌, ◌++◌, map, Option, Some, None, ◌⊎◌, inl, inr, refl, sym, ap, subst, ◌∙◌}
use Rattle.std.specs.Prelude.{if◌then◌else◌, ◌||◌}
use Rattle.std.specs.Bool.{Decides}
use Rattle.std.specs.List.{list_any, flat_map, filter}
use Rattle.std.proofs.lemmas.Bool.{or_left, or_right}
use Rattle.rules.specs.link_rules.Cycles.{listed, add_new, add_all}

abbrev pub In : {A : Type 0} → A → List A → Type 0
In x [] = ⊥
In x (y ∷ ys) = (x ≡ y) ⊎ In x ys

module _ {A : Type 0} (x : A) where
  pub in_front : (xs ys : List A) → In x xs → In x (xs ++ ys)
  in_front [] ys h = absurd h
  in_front (y ∷ xs) ys (inl e) = inl e
  in_front (y ∷ xs) ys (inr h) = inr (in_front xs ys h)

  pub in_behind : (xs ys : List A) → In x ys → In x (xs ++ ys)
  in_behind [] ys h = h
  in_behind (y ∷ xs) ys h = inr (in_behind xs ys h)

  later : (y : A) (xs ys : List A) → In x xs ⊎ In x ys → ((x ≡ y) ⊎ In x xs) ⊎ In x ys
  later y xs ys (inl h) = inl (inr h)
  later y xs ys (inr h) = inr h

  pub in_parts : (xs ys : List A) → In x (xs ++ ys) → In x xs ⊎ In x ys
  in_parts [] ys h = inr h
  in_parts (y ∷ xs) ys (inl e) = inl (inl e)
  in_parts (y ∷ xs) ys (inr h) = later y xs ys (in_parts xs ys h)

  pub in_listed : (o : Option A) → In x (listed o) → o ≡ Some x
  in_listed None h = absurd h
  in_listed (Some y) (inl e) = ap (λ (z : A). Some z) (sym e)
  in_listed (Some y) (inr h) = absurd h

  pub listed_in : (o : Option A) → o ≡ Some x → In x (listed o)
  listed_in o e = subst (λ (p : Option A). In x (listed p)) (sym e) (inl refl)

  filtered : (p : A → Bool) (y : A) (xs ys : List A) (b : Bool) → p y ≡ b → (In x xs → (p x ≡ true) × In x ys) → In x (if b then y ∷ xs else xs) → (p x ≡ true) × In x (y ∷ ys)
  filtered p y xs ys true is more (inl e) = (ap p e ∙ is, inl e)
  filtered p y xs ys true is more (inr h) = let m = more h in (m.0, inr m.1)
  filtered p y xs ys false is more h = let m = more h in (m.0, inr m.1)

  pub in_filter : (p : A → Bool) (xs : List A) → In x (filter p xs) → (p x ≡ true) × In x xs
  in_filter p [] h = absurd h
  in_filter p (y ∷ xs) h = filtered p y (filter p xs) xs (p y) refl (in_filter p xs) h

module _ {A B : Type 0} where
  pub in_map : (f : A → B) (y : B) (xs : List A) → In y (map f xs) → (x : A) × In x xs × (y ≡ f x)
  in_map f y [] h = absurd h
  in_map f y (x ∷ xs) (inl e) = (x, inl refl, e)
  in_map f y (x ∷ xs) (inr h) = let m = in_map f y xs h in (m.0, inr m.1, m.2)

  flat_by : (f : A → List B) (y : B) (x : A) (xs : List A) → (In y (flat_map f xs) → (z : A) × In z xs × In y (f z)) → In y (f x) ⊎ In y (flat_map f xs)
      → (z : A) × In z (x ∷ xs) × In y (f z)
  flat_by f y x xs more (inl h) = (x, inl refl, h)
  flat_by f y x xs more (inr h) = let m = more h in (m.0, inr m.1, m.2)

  pub in_flat : (f : A → List B) (y : B) (xs : List A) → In y (flat_map f xs) → (x : A) × In x xs × In y (f x)
  in_flat f y [] h = absurd h
  in_flat f y (x ∷ xs) h = flat_by f y x xs (in_flat f y xs) (in_parts y (f x) (flat_map f xs) h)

  pub flat_in : (f : A → List B) (y : B) (x : A) (xs : List A) → In x xs → In y (f x) → In y (flat_map f xs)
  flat_in f y x [] h g = absurd h
  flat_in f y x (z ∷ xs) (inl e) g = in_front y (f z) (flat_map f xs) (subst (λ (a : A). In y (f a)) e g)
  flat_in f y x (z ∷ xs) (inr h) g = in_behind y (f z) (flat_map f xs) (flat_in f y x xs h g)

-- ---- by a test for equality

module _ {A : Type 0} (same : A → A → Bool) (decides : (x y : A) → Decides (same x y) (x ≡ y)) where
  any_by : (x y : A) (ys : List A) (b : Bool) → same x y ≡ b → (list_any (same x) ys ≡ true → In x ys) → (b || list_any (same x) ys) ≡ true → In x (y ∷ ys)
  any_by x y ys true is more e = inl ((decides x y).0 is)
  any_by x y ys false is more e = inr (more e)

  pub in_any : (x : A) (xs : List A) → list_any (same x) xs ≡ true → In x xs
  in_any x [] e = cc
  in_any x (y ∷ xs) e = any_by x y xs (same x y) refl (in_any x xs) e

  pub any_in : (x : A) (xs : List A) → In x xs → list_any (same x) xs ≡ true
  any_in x [] h = absurd h
  any_in x (y ∷ xs) (inl e) = or_left (same x y) (list_any (same x) xs) ((decides x y).1 e)
  any_in x (y ∷ xs) (inr h) = or_right (same x y) (list_any (same x) xs) (any_in x xs h)

  -- ---- items that are added

  kept_by : (x y : A) (xs : List A) (b : Bool) → In x xs → In x (if b then xs else xs ++ y ∷ [])
  kept_by x y xs true h = h
  kept_by x y xs false h = in_front x xs (y ∷ []) h

  pub in_kept : (x : A) (xs ys : List A) → In x xs → In x (add_all same xs ys)
  in_kept x xs [] h = h
  in_kept x xs (y ∷ ys) h = in_kept x (add_new same xs y) ys (kept_by x y xs (list_any (same y) xs) h)

  new_by : (y : A) (xs : List A) (b : Bool) → list_any (same y) xs ≡ b → In y (if b then xs else xs ++ y ∷ [])
  new_by y xs true is = in_any y xs is
  new_by y xs false is = in_behind y xs (y ∷ []) (inl refl)

  pub in_added : (x : A) (xs ys : List A) → In x ys → In x (add_all same xs ys)
  in_added x xs [] h = absurd h
  in_added x xs (y ∷ ys) (inl e) = subst (λ (z : A). In z (add_all same xs (y ∷ ys))) (sym e) (in_kept y (add_new same xs y) ys (new_by y xs (list_any (same y) xs) refl))
  in_added x xs (y ∷ ys) (inr h) = in_added x (add_new same xs y) ys h

  old_by : (x y : A) (xs : List A) (b : Bool) → In x (if b then xs else xs ++ y ∷ []) → In x xs ⊎ In x (y ∷ [])
  old_by x y xs true h = inl h
  old_by x y xs false h = in_parts x xs (y ∷ []) h

  one_more : (x y : A) (xs ys : List A) → In x xs ⊎ In x (y ∷ []) → In x xs ⊎ In x (y ∷ ys)
  one_more x y xs ys (inl h) = inl h
  one_more x y xs ys (inr (inl e)) = inr (inl e)
  one_more x y xs ys (inr (inr h)) = absurd h

  from_by : (x y : A) (xs ys : List A) → (In x (add_new same xs y) → In x xs ⊎ In x (y ∷ [])) → In x (add_new same xs y) ⊎ In x ys → In x xs ⊎ In x (y ∷ ys)
  from_by x y xs ys old (inl h) = one_more x y xs ys (old h)
  from_by x y xs ys old (inr h) = inr (inr h)

  pub added_from : (x : A) (xs ys : List A) → In x (add_all same xs ys) → In x xs ⊎ In x ys
  added_from x xs [] h = inl h
  added_from x xs (y ∷ ys) h =
      from_by x y xs ys (old_by x y xs (list_any (same y) xs)) (added_from x (add_new same xs y) ys h)
