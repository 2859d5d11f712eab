-- Items that are written once, and rows of which each item has one.
use Rattle.std.proofs.Common.{◌≡◌, ◌<◌, ℕ, zero, suc, ◌+◌, List, [], ◌∷◌, ◌++◌, length, cond, Bool, true, false, Some, None, ◌⊎◌, inl, inr, refl, ap, sym, subst, ◌∙◌, ◌||◌, not, arith}
use Rattle.std.specs.Prelude.{slice_get, position, nat_lt, Contains, if◌then◌else◌}
use Rattle.std.specs.List.{list_any, flat_map, position_or_len}
use Rattle.std.proofs.lemmas.Bool.{lt-ltb, or_left, or_right}
use Rattle.std.proofs.lemmas.List.Folds.{list_any-append}
use Rattle.rules.specs.type_rules.Rows.{each_from}
use Rattle.rules.specs.merge_rules.Refs.{met_once, all_once, each_once}
use Rattle.base_laws.proofs.lemmas.type_laws.Within.{In, in_parts}

pub contained : {A : Type 0} (xs : List A) (x : A) → Contains xs x → In x xs
contained [] x c = absurd (let lt = c.1 in omega arith)
contained (y ∷ xs) x (zero, lt, is) = inl (sym is)
contained (y ∷ xs) x (suc n, lt, is) = inr (contained xs x (n, omega arith, is))

pub contains : {A : Type 0} (xs : List A) (x : A) → In x xs → Contains xs x
contains [] x h = absurd h
contains (y ∷ xs) x (inl e) = (0, omega arith, sym e)
contains (y ∷ xs) x (inr h) = let c = contains xs x h in let lt = c.1 in (suc c.0, omega arith, c.2)

-- ---- the first item that passes a test

pub record Placed {A : Type 0} (p : A → Bool) (xs : List A) : Type 0 where
  pub index : ℕ
  pub is : position p xs ≡ Some index
  pub item : A
  pub there : slice_get xs index ≡ Some item
  pub passes : p item ≡ true
  pub below : index < length xs

record First {A : Type 0} (p : A → Bool) (xs : List A) (k : ℕ) : Type 0 where
  item : A
  there : slice_get xs k ≡ Some item
  passes : p item ≡ true
  below : k < length xs

first_later : {A : Type 0} (p : A → Bool) (x : A) (xs : List A) (k n : ℕ) → n ≡ suc k → First p xs k → First p (x ∷ xs) n
first_later p x xs k n e f = subst (λ m. First p (x ∷ xs) m) (sym e) (record { item = f.item; there = f.there; passes = f.passes; below = let h : k < length xs = f.below in omega arith })

first_by : {A : Type 0} (p : A → Bool) (x : A) (xs : List A) (b : Bool) → p x ≡ b → (list_any p xs ≡ true → First p xs (position_or_len p xs))
    → (b || list_any p xs) ≡ true → First p (x ∷ xs) (cond (not b) (1 + position_or_len p xs) 0)
first_by p x xs true e later h = record { item = x; there = refl; passes = e; below = omega arith }
first_by p x xs false e later h = first_later p x xs (position_or_len p xs) (1 + position_or_len p xs) (omega arith) (later h)

first : {A : Type 0} (p : A → Bool) (xs : List A) → list_any p xs ≡ true → First p xs (position_or_len p xs)
first p [] e = cc
first p (x ∷ xs) e = first_by p x xs (p x) refl (first p xs) e

pub placed : {A : Type 0} (p : A → Bool) (xs : List A) → list_any p xs ≡ true → Placed p xs
placed p xs e =
    let f : First p xs (position_or_len p xs) = first p xs e in
    let lt : nat_lt (position_or_len p xs) (length xs) ≡ true = lt-ltb (position_or_len p xs) (length xs) f.below in
    record {
      index = position_or_len p xs;
      is = ap (λ (b : Bool). cond b (Some (position_or_len p xs)) None) lt;
      item = f.item;
      there = f.there;
      passes = f.passes;
      below = f.below;
    }

-- ---- each once

or_false : (a : Bool) → (a || false) ≡ a
or_false true = refl
or_false false = refl

module _ {A : Type 0} (same : A → A → Bool) where
  any_if : (p : A → Bool) (xs : List A) (y : A) (b : Bool) → list_any p xs ≡ true → list_any p (if b then xs else xs ++ y ∷ []) ≡ true
  any_if p xs y true e = e
  any_if p xs y false e = list_any-append p xs (y ∷ []) ∙ or_left (list_any p xs) (list_any p (y ∷ [])) e

  any_kept : (p : A → Bool) (xs ys : List A) → list_any p xs ≡ true → list_any p (all_once same xs ys) ≡ true
  any_kept p xs [] e = e
  any_kept p xs (y ∷ ys) e = any_kept p (met_once same xs y) ys (any_if p xs y (list_any (same y) xs) e)

  last_if : (xs : List A) (y : A) (b : Bool) → list_any (same y) xs ≡ b → same y y ≡ true → list_any (same y) (if b then xs else xs ++ y ∷ []) ≡ true
  last_if xs y true f e = f
  last_if xs y false f e = list_any-append (same y) xs (y ∷ []) ∙ or_right (list_any (same y) xs) (same y y || false) (or_left (same y y) false e)

  any_once : (xs ys : List A) (x : A) → same x x ≡ true → In x ys → list_any (same x) (all_once same xs ys) ≡ true
  any_once xs [] x e h = absurd h
  any_once xs (y ∷ ys) x e (inl f) =
      subst (λ z. list_any (same x) (all_once same (met_once same xs z) ys) ≡ true) f (any_kept (same x) (met_once same xs x) ys (last_if xs x (list_any (same x) xs) refl e))
  any_once xs (y ∷ ys) x e (inr h) = any_once (met_once same xs y) ys x e h

  -- an item that was met has a place, in which the same item stands
  pub has_place : (ys : List A) (x : A) → same x x ≡ true → In x ys → Placed (same x) (each_once same ys)
  has_place ys x e h = placed (same x) (each_once same ys) (any_once [] ys x e h)

-- ---- one row for each item

pub single_at : {A B : Type 0} (f : A → List B) (xs : List A) (k : ℕ) (x : A) (y : B) → ((z : A) → In z xs → (w : B) × (f z ≡ w ∷ [])) → slice_get xs k ≡ Some x → f x ≡ y ∷ []
    → slice_get (flat_map f xs) k ≡ Some y
single_at f [] k x y h e g = cc
single_at f (z ∷ xs) zero x y h e g =
    let same : z ≡ x = cc in
    ap (λ ys. slice_get (ys ++ flat_map f xs) 0) (ap f same ∙ g)
single_at f (z ∷ xs) (suc k) x y h e g =
    let w = h z (inl refl) in
    ap (λ ys. slice_get (ys ++ flat_map f xs) (suc k)) w.1 ∙ single_at f xs k x y (λ v i. h v (inr i)) e g

pub single_length : {A B : Type 0} (f : A → List B) (xs : List A) → ((z : A) → In z xs → (w : B) × (f z ≡ w ∷ [])) → length (flat_map f xs) ≡ length xs
single_length f [] h = refl
single_length f (z ∷ xs) h =
    let w = h z (inl refl) in
    let n : length (flat_map f xs) ≡ length xs = single_length f xs (λ v i. h v (inr i)) in
    ap (λ ys. length (ys ++ flat_map f xs)) w.1 ∙ ap suc n

-- ---- by rows with their numbers

each_by : {A B : Type 0} (f : ℕ → A → List B) (y : B) (k : ℕ) (x : A) (xs : List A) → (In y (each_from f (suc k) xs) → (j : ℕ) × (z : A) × In z xs × In y (f j z))
    → In y (f k x) ⊎ In y (each_from f (suc k) xs) → (j : ℕ) × (z : A) × In z (x ∷ xs) × In y (f j z)
each_by f y k x xs more (inl h) = (k, x, inl refl, h)
each_by f y k x xs more (inr h) = let m = more h in (m.0, m.1, inr m.2, m.3)

pub in_each : {A B : Type 0} (f : ℕ → A → List B) (y : B) (k : ℕ) (xs : List A) → In y (each_from f k xs) → (j : ℕ) × (x : A) × In x xs × In y (f j x)
in_each f y k [] h = absurd h
in_each f y k (x ∷ xs) h = each_by f y k x xs (in_each f y (suc k) xs) (in_parts y (f k x) (each_from f (suc k) xs) h)
