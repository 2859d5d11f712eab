-- The first item that passes a test: in joined lists, and in a list that is sorted by a key, for a test on the key.
use Rattle.std.proofs.Common.{◌≡◌, ◌<◌, ◌≤◌, ℕ, zero, suc, List, [], ◌∷◌, ◌++◌, Bool, true, false, cond, find, ◌⊎◌, inl, inr, Option, Some, None, refl, sym, ap, ◌∙◌, arith, ltb-true}
use Rattle.std.specs.Prelude.{slice_get, nat_lt, ◌==◌, if◌then◌else◌}
use Rattle.std.specs.List.{Contains, flat_map}
use Rattle.std.proofs.lemmas.Bool.{ltb-false, ne_eqb, eqb-true}
use Rattle.rules.specs.link_rules.Types.{or_else}
use Rattle.rules.specs.merge_rules.Sorted.{put, put_all, by_key}
use Rattle.merge_laws.proofs.lemmas.merged_record.Lists.{none_in, first_in, later_in, one_is, head_or}
use Rattle.merge_laws.proofs.lemmas.merged_record.Sorting.{Ordered}

-- ---- options

or_none : {A : Type 0} (o : Option A) → or_else o None ≡ o
or_none None = refl
or_none (Some x) = refl

or_or : {A : Type 0} (o p q : Option A) → or_else (or_else o p) q ≡ or_else o (or_else p q)
or_or None p q = refl
or_or (Some x) p q = refl

or_one : {A : Type 0} (b : Bool) (x : A) (o : Option A) → or_else (cond b (Some x) None) o ≡ cond b (Some x) o
or_one true x o = refl
or_one false x o = refl

-- ---- joined lists

pub none_found : {A : Type 0} (p : A → Bool) (xs : List A) → ((x : A) → Contains xs x → p x ≡ false) → find p xs ≡ None
none_found p [] h = refl
none_found p (x ∷ xs) h = let e = h x (first_in x xs) in let f = none_found p xs (λ y c. h y (later_in x xs y c)) in rw (e, f) refl

join_by : {A : Type 0} (b : Bool) (x : A) (o q : Option A) → cond b (Some x) (or_else o q) ≡ or_else (cond b (Some x) o) q
join_by true x o q = refl
join_by false x o q = refl

pub found_join : {A : Type 0} (p : A → Bool) (xs ys : List A) → find p (xs ++ ys) ≡ or_else (find p xs) (find p ys)
found_join p [] ys = refl
found_join {A} p (x ∷ xs) ys = ap (λ (o : Option A). cond (p x) (Some x) o) (found_join p xs ys) ∙ join_by (p x) x (find p xs) (find p ys)

flat_none : {A B : Type 0} (p : B → Bool) (g : A → List B) (xs : List A) → ((k : ℕ) (y : A) → slice_get xs k ≡ Some y → find p (g y) ≡ None) → find p (flat_map g xs) ≡ None
flat_none p g [] h = refl
flat_none p g (x ∷ xs) h =
    let e = h 0 x refl in
    let f = flat_none p g xs (λ k y e. h (suc k) y e) in
    found_join p (g x) (flat_map g xs) ∙ rw (e, f) refl

-- it is in the part of the one item whose part has some
pub flat_found : {A B : Type 0} (p : B → Bool) (g : A → List B) (xs : List A) (k : ℕ) (x : A) → slice_get xs k ≡ Some x → ((j : ℕ) (y : A) → slice_get xs j ≡ Some y → (j ≡ k → ⊥) → find p (g y) ≡ None)
    → find p (flat_map g xs) ≡ find p (g x)
flat_found p g [] k x e h = absurd (cc)
flat_found {A} p g (y ∷ xs) zero x e h =
    let same : y ≡ x = cc in
    let rest : find p (flat_map g xs) ≡ None = flat_none p g xs (λ j z f. h (suc j) z f (λ n. omega (arith, n))) in
    found_join p (g y) (flat_map g xs) ∙ ap (or_else (find p (g y))) rest ∙ or_none (find p (g y)) ∙ ap (λ (z : A). find p (g z)) same
flat_found {A} {B} p g (y ∷ xs) (suc k) x e h =
    let front : find p (g y) ≡ None = h 0 y refl (λ n. omega (arith, n)) in
    found_join p (g y) (flat_map g xs) ∙ ap (λ (o : Option B). or_else o (find p (flat_map g xs))) front ∙ flat_found p g xs k x e (λ j z f ne. h (suc j) z f (λ n. ne (omega (arith, n))))

-- ---- a sorted list

module _ {A : Type 0} (key : A → ℕ) (n : ℕ) where
  abbrev has : A → Bool
  has x = key x == n

  abbrev Least : A → A → Type 0
  Least a b = key a ≤ key b

  put_case : (b : Bool) (x y : A) (ys : List A) (z : A) → (Contains (put key x ys) z → (x ≡ z) ⊎ Contains ys z) → Contains (if b then x ∷ y ∷ ys else y ∷ put key x ys) z → (x ≡ z) ⊎ Contains (y ∷ ys) z
  put_case true x y ys z next c = head_or x (y ∷ ys) z c
  put_case false x y ys z next c =
      elim (head_or y (put key x ys) z c) [
        | inl e ↦ inr (0, omega arith, e)
        | inr t ↦ elim (next t) [ inl e ↦ inl e | inr s ↦ inr (later_in y ys z s) ]
      ]

  put_in : (x : A) (ys : List A) (z : A) → Contains (put key x ys) z → (x ≡ z) ⊎ Contains ys z
  put_in x [] z c = inl (one_is x z c)
  put_in x (y ∷ ys) z c = put_case (nat_lt (key x) (key y)) x y ys z (put_in x ys z) c

  ordered_case : (b : Bool) (x y : A) (ys : List A) → nat_lt (key x) (key y) ≡ b → Ordered Least (y ∷ ys) → Ordered Least (put key x ys) → Ordered Least (if b then x ∷ y ∷ ys else y ∷ put key x ys)
  ordered_case true x y ys e up rest =
      let below : key x < key y = ltb-true (key x) (key y) e in
      (λ z c. elim (head_or y ys z c) [ inl s ↦ (let k : key y ≡ key z = ap key s in omega arith) | inr t ↦ (let le = up.0 z t in omega arith) ], up)
  ordered_case false x y ys e up rest =
      let le : key y ≤ key x = ltb-false (key x) (key y) e in
      (λ z c. elim (put_in x ys z c) [ inl s ↦ (let k : key x ≡ key z = ap key s in omega arith) | inr t ↦ up.0 z t ], rest)

  put_ordered : (x : A) (ys : List A) → Ordered Least ys → Ordered Least (put key x ys)
  put_ordered x [] up = (λ z c. absurd (none_in z c), tt)
  put_ordered x (y ∷ ys) up = ordered_case (nat_lt (key x) (key y)) x y ys refl up (put_ordered x ys up.1)

  -- all items after it are greater
  front_by : (x y : A) (ys : List A) (b : Bool) → (b ≡ true → find has (y ∷ ys) ≡ None) → cond b (Some x) (find has (y ∷ ys)) ≡ or_else (find has (y ∷ ys)) (cond b (Some x) None)
  front_by x y ys true h = sym (ap (λ (o : Option A). or_else o (Some x)) (h refl))
  front_by x y ys false h = sym (or_none (find has (y ∷ ys)))

  behind_by : (x y : A) (ys : List A) (b : Bool) → find has (put key x ys) ≡ or_else (find has ys) (cond (has x) (Some x) None)
      → cond b (Some y) (find has (put key x ys)) ≡ or_else (cond b (Some y) (find has ys)) (cond (has x) (Some x) None)
  behind_by x y ys true h = refl
  behind_by x y ys false h = h

  greater : (x y : A) (ys : List A) → Ordered Least (y ∷ ys) → key x < key y → has x ≡ true → find has (y ∷ ys) ≡ None
  greater x y ys up lt e =
      let here : key x ≡ n = eqb-true (key x) n e in
      none_found has (y ∷ ys)
      (λ z c. elim (head_or y ys z c) [
        | inl s ↦ (let k : key y ≡ key z = ap key s in ne_eqb (key z) n (λ f. omega (arith, f)))
        | inr t ↦ (let le = up.0 z t in ne_eqb (key z) n (λ f. omega (arith, f)))
      ])

  first_case : (b : Bool) (x y : A) (ys : List A) → nat_lt (key x) (key y) ≡ b → Ordered Least (y ∷ ys) → find has (put key x ys) ≡ or_else (find has ys) (cond (has x) (Some x) None)
      → find has (if b then x ∷ y ∷ ys else y ∷ put key x ys) ≡ or_else (find has (y ∷ ys)) (cond (has x) (Some x) None)
  first_case true x y ys e up next = front_by x y ys (has x) (greater x y ys up (ltb-true (key x) (key y) e))
  first_case false x y ys e up next = behind_by x y ys (has y) next

  put_first : (x : A) (ys : List A) → Ordered Least ys → find has (put key x ys) ≡ or_else (find has ys) (cond (has x) (Some x) None)
  put_first x [] up = refl
  put_first x (y ∷ ys) up = first_case (nat_lt (key x) (key y)) x y ys refl up (put_first x ys up.1)

  all_first : (sorted xs : List A) → Ordered Least sorted → find has (put_all key sorted xs) ≡ or_else (find has sorted) (find has xs)
  unfolding put_all
  all_first sorted [] up = sym (or_none (find has sorted))
  all_first sorted (x ∷ xs) up =
      all_first (put key x sorted) xs (put_ordered x sorted up)
      ∙ ap (λ (o : Option A). or_else o (find has xs)) (put_first x sorted up)
      ∙ or_or (find has sorted) (cond (has x) (Some x) None) (find has xs)
      ∙ ap (or_else (find has sorted)) (or_one (has x) x (find has xs))

  -- the first row of a key stays the first
  pub sorted_first : (xs : List A) → find has (by_key key xs) ≡ find has xs
  sorted_first xs = all_first [] xs tt
