-- Rows and items of lists by their places.
use Rattle.std.proofs.Common.{◌≡◌, ℕ, zero, suc, ◌<◌, ◌≤◌, true, Bool, List, [], ◌∷◌, ◌++◌, map, length, take, get_or, Some, ◌⊎◌, inl, inr, refl, sym, ap, ◌∙◌, arith, take_all, length-append}
use Rattle.std.specs.Prelude.{slice_get}
use Rattle.std.specs.List.{flat_map, list_all}
use Rattle.std.proofs.lemmas.Bool.{and_parts}
use Rattle.std.proofs.lemmas.Option.{same_Some, none-some, slice_get-map}
use Rattle.rules.specs.record_format.Cells.{first_rows}
use Rattle.file_laws.specs.written_tables.Written.{IsIn}
use Rattle.file_laws.proofs.lemmas.written_tables.Once.{in_front}

-- the element at a place that a list has
pub element : {A : Type 0} (xs : List A) (k : ℕ) → k < length xs → (x : A) × (slice_get xs k ≡ Some x)
element [] k lt = absurd (omega arith)
element (x ∷ xs) zero lt = (x, refl)
element (x ∷ xs) (suc k) lt = element xs k (omega arith)

take_next : {A : Type 0} (xs : List A) (k : ℕ) (x : A) → slice_get xs k ≡ Some x → take (suc k) xs ≡ take k xs ++ x ∷ []
take_next [] k x e = absurd (none-some x e)
take_next (y ∷ ys) zero x e = ap (λ z. z ∷ []) (same_Some y x e)
take_next (y ∷ ys) (suc k) x e = ap (λ zs. y ∷ zs) (take_next ys k x e)

rows_before : {A : Type 0} (f : ℕ → A) (xs : List A) → ((k : ℕ) (x : A) → slice_get xs k ≡ Some x → f (suc k) ≡ x) → (n : ℕ) → n ≤ length xs → first_rows f n ≡ take n xs
unfolding first_rows
rows_before f xs h zero le = refl
rows_before f xs h (suc n) le =
    let here = element xs n le in
    rw (rows_before f xs h n (omega arith), h n here.0 here.1) (sym (take_next xs n here.0 here.1))

-- rows that are read one by one
pub rows_read : {A : Type 0} (f : ℕ → A) (xs : List A) (n : ℕ) → n ≡ length xs → ((k : ℕ) (x : A) → slice_get xs k ≡ Some x → f (suc k) ≡ x) → first_rows f n ≡ xs
rows_read f xs n e h = ap (first_rows f) e ∙ rows_before f xs h (length xs) (omega arith) ∙ take_all (length xs) xs (omega arith)

pub no_rows_read : {A : Type 0} (f : ℕ → A) (n : ℕ) → n ≡ 0 → first_rows f n ≡ []
no_rows_read f n e = rows_read f [] n e (λ k x none. absurd (none-some x none))

-- ---- mapped lists

pub mapped : {A B : Type 0} (f : A → B) (xs : List A) (k : ℕ) (x : A) → slice_get xs k ≡ Some x → slice_get (map f xs) k ≡ Some (f x)
mapped f xs k x e = rw (slice_get-map f xs k, e) refl

pub of_mapped : {A B : Type 0} (f : A → B) (xs : List A) (k : ℕ) (y : B) → slice_get (map f xs) k ≡ Some y → (x : A) × (slice_get xs k ≡ Some x) × (f x ≡ y)
of_mapped f [] k y e = absurd (none-some y e)
of_mapped f (x ∷ xs) zero y e = (x, refl, same_Some (f x) y e)
of_mapped f (x ∷ xs) (suc k) y e = of_mapped f xs k y e

-- a list in a list of lists, which has something
pub inner : {A : Type 0} (xss : List (List A)) (t r : ℕ) (x : A) → slice_get (get_or xss t []) r ≡ Some x → slice_get xss t ≡ Some (get_or xss t [])
inner [] t r x e = absurd (none-some x e)
inner (xs ∷ xss) zero r x e = refl
inner (xs ∷ xss) (suc t) r x e = inner xss t r x e

-- ---- joined items

in_right : (xs ys : List (List ℕ)) (x : List ℕ) → IsIn ys x → IsIn (xs ++ ys) x
in_right [] ys x h = h
in_right (z ∷ zs) ys x h = let rest = in_right zs ys x h in (suc rest.0, rest.1)

of_joined : (xs ys : List (List ℕ)) (x : List ℕ) → IsIn (xs ++ ys) x → IsIn xs x ⊎ IsIn ys x
of_joined xs ys x h = parts xs h.0 h.1
  where
    parts : (zs : List (List ℕ)) (k : ℕ) → slice_get (zs ++ ys) k ≡ Some x → IsIn zs x ⊎ IsIn ys x
    parts [] k e = inr (k, e)
    parts (z ∷ zs) zero e = inl (0, e)
    parts (z ∷ zs) (suc k) e = elim (parts zs k e) [ inl m ↦ inl (suc m.0, m.1) | inr m ↦ inr m ]

pub in_flat : {X : Type 0} (f : X → List (List ℕ)) (xs : List X) (k : ℕ) (x : X) (y : List ℕ) → slice_get xs k ≡ Some x → IsIn (f x) y → IsIn (flat_map f xs) y
in_flat f [] k x y e h = absurd (none-some x e)
in_flat {X = X} f (z ∷ zs) zero x y e h = in_front (f z) (flat_map f zs) y (let same : z ≡ x = same_Some z x e in rw same h)
in_flat f (z ∷ zs) (suc k) x y e h = in_right (f z) (flat_map f zs) y (in_flat f zs k x y e h)

pub of_flat : {X : Type 0} (f : X → List (List ℕ)) (xs : List X) (y : List ℕ) → IsIn (flat_map f xs) y → (k : ℕ) × (x : X) × (slice_get xs k ≡ Some x) × IsIn (f x) y
of_flat f [] y h = absurd (none-some y h.1)
of_flat f (z ∷ zs) y h = elim (of_joined (f z) (flat_map f zs) y h) [
  | inl m ↦ (0, z, refl, m)
  | inr m ↦ let rest = of_flat f zs y m in (suc rest.0, rest.1, rest.2, rest.3)
]

-- an item isn't longer than all of them together
pub item_within : (f : List ℕ → List ℕ) (xs : List (List ℕ)) (x : List ℕ) → IsIn xs x → length (f x) ≤ length (flat_map f xs)
item_within f xs x h = within xs h.0 h.1
  where
    within : (zs : List (List ℕ)) (k : ℕ) → slice_get zs k ≡ Some x → length (f x) ≤ length (flat_map f zs)
    within [] k e = absurd (none-some x e)
    within (z ∷ zs) zero e = let same : z ≡ x = same_Some z x e in omega (arith, ap (λ w. length (f w)) same, length-append (f z) (flat_map f zs))
    within (z ∷ zs) (suc k) e = omega (arith, within zs k e, length-append (f z) (flat_map f zs))

-- what a test of all says of one
pub one_of_all : {X : Type 0} (p : X → Bool) (xs : List X) (k : ℕ) (x : X) → list_all p xs ≡ true → slice_get xs k ≡ Some x → p x ≡ true
one_of_all p [] k x h e = absurd (none-some x e)
one_of_all p (z ∷ zs) zero x h e = let same : z ≡ x = same_Some z x e in rw (← same) (and_parts (p z) (list_all p zs) h).0
one_of_all p (z ∷ zs) (suc k) x h e = one_of_all p zs k x (and_parts (p z) (list_all p zs) h).1 e
