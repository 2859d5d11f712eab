-- Items that are listed once.
use Rattle.std.proofs.Common.{◌≡◌, ℕ, zero, suc, true, false, List, [], ◌∷◌, ◌++◌, length, Some, ◌⊎◌, inl, inr, refl, sym, ◌∙◌, arith}
use Rattle.std.specs.Prelude.{slice_get, bytes_eq}
use Rattle.std.specs.List.{list_any}
use Rattle.std.proofs.lemmas.Bool.{cases_Bool, or_cases, or_left, or_right, false≢true}
use Rattle.std.proofs.lemmas.Slice.Eq.{bytes_eq-Decides}
use Rattle.std.proofs.lemmas.Option.{none-some, same_Some}
use Rattle.rules.specs.file_layout.Interning.{added, added_all, each_once}
use Rattle.file_laws.specs.written_tables.Written.{IsIn, Once}

abbrev pub Items : Type 0
Items = List (List ℕ)

in_more : (y : List ℕ) (ys : Items) (x : List ℕ) → IsIn ys x → IsIn (y ∷ ys) x
in_more y ys x h = (suc h.0, h.1)

-- ---- at the front and at the end

pub in_first : (y : List ℕ) (ys : Items) (x : List ℕ) → IsIn (y ∷ ys) x → (y ≡ x) ⊎ IsIn ys x
in_first y ys x h = first h.0 h.1
  where
    first : (k : ℕ) → slice_get (y ∷ ys) k ≡ Some x → (y ≡ x) ⊎ IsIn ys x
    first zero e = inl (same_Some y x e)
    first (suc k) e = inr (k, e)

pub in_front : (xs ys : Items) (x : List ℕ) → IsIn xs x → IsIn (xs ++ ys) x
in_front [] ys x h = absurd (none-some x h.1)
in_front (y ∷ more) ys x h = elim (in_first y more x h) [
  | inl e ↦ (0, rw e refl)
  | inr m ↦ in_more y (more ++ ys) x (in_front more ys x m)
]

pub in_end : (xs : Items) (x : List ℕ) → IsIn (xs ++ x ∷ []) x
in_end [] x = (0, refl)
in_end (y ∷ ys) x = in_more y (ys ++ x ∷ []) x (in_end ys x)

pub in_joined : (xs : Items) (y x : List ℕ) → IsIn (xs ++ y ∷ []) x → IsIn xs x ⊎ (y ≡ x)
in_joined [] y x h = elim (in_first y [] x h) [ inl e ↦ inr e | inr m ↦ inl m ]
in_joined (z ∷ zs) y x h = elim (in_first z (zs ++ y ∷ []) x h) [
  | inl e ↦ inl (0, rw e refl)
  | inr m ↦ elim (in_joined zs y x m) [ inl n ↦ inl (in_more z zs x n) | inr e ↦ inr e ]
]

-- ---- what is listed already

pub in_listed : (xs : Items) (x : List ℕ) → list_any (bytes_eq x) xs ≡ true → IsIn xs x
in_listed [] x h = absurd cc
in_listed (y ∷ ys) x h = elim (or_cases (bytes_eq x y) (list_any (bytes_eq x) ys) h) [
  | inl e ↦ (0, let same : x ≡ y = (bytes_eq-Decides x y).0 e in rw same refl)
  | inr m ↦ in_more y ys x (in_listed ys x m)
]

in_added : (xs : Items) (y x : List ℕ) → IsIn xs x → IsIn (added xs y) x
unfolding added
in_added xs y x h = elim (cases_Bool (list_any (bytes_eq y) xs)) [
  | inl e ↦ rw e h
  | inr e ↦ rw e (in_front xs (y ∷ []) x h)
]

added_in : (xs : Items) (y : List ℕ) → IsIn (added xs y) y
unfolding added
added_in xs y = elim (cases_Bool (list_any (bytes_eq y) xs)) [
  | inl e ↦ rw e (in_listed xs y e)
  | inr e ↦ rw e (in_end xs y)
]

of_added : (xs : Items) (y x : List ℕ) → IsIn (added xs y) x → IsIn xs x ⊎ (y ≡ x)
unfolding added
of_added xs y x h = elim (cases_Bool (list_any (bytes_eq y) xs)) [
  | inl e ↦ inl (rw e at h)
  | inr e ↦ in_joined xs y x (rw e at h)
]

-- ---- all items

kept : (xs ys : Items) (x : List ℕ) → IsIn xs x → IsIn (added_all xs ys) x
unfolding added_all
kept xs [] x h = h
kept xs (y ∷ ys) x h = kept (added xs y) ys x (in_added xs y x h)

all_added : (xs ys : Items) (x : List ℕ) → IsIn ys x → IsIn (added_all xs ys) x
unfolding added_all
all_added xs [] x h = absurd (none-some x h.1)
all_added xs (y ∷ ys) x h = elim (in_first y ys x h) [
  | inl e ↦ rw (← e) (kept (added xs y) ys y (added_in xs y))
  | inr m ↦ all_added (added xs y) ys x m
]

only_added : (xs ys : Items) (x : List ℕ) → IsIn (added_all xs ys) x → IsIn xs x ⊎ IsIn ys x
unfolding added_all
only_added xs [] x h = inl h
only_added xs (y ∷ ys) x h = elim (only_added (added xs y) ys x h) [
  | inl m ↦ elim (of_added xs y x m) [ inl n ↦ inl n | inr e ↦ inr (0, rw e refl) ]
  | inr m ↦ inr (in_more y ys x m)
]

only_these : (xs : Items) (x : List ℕ) → IsIn (each_once xs) x → IsIn xs x
only_these xs x h = elim (only_added [] xs x h) [ inl m ↦ absurd (none-some x m.1) | inr m ↦ m ]

-- ---- no item twice

abbrev Distinct : Items → Type 0
Distinct xs = (j k : ℕ) (x : List ℕ) → slice_get xs j ≡ Some x → slice_get xs k ≡ Some x → j ≡ k

place_in_joined : (xs : Items) (y x : List ℕ) (k : ℕ) → slice_get (xs ++ y ∷ []) k ≡ Some x → (slice_get xs k ≡ Some x) ⊎ ((k ≡ length xs) × (y ≡ x))
place_in_joined [] y x zero e = inr (refl, same_Some y x e)
place_in_joined [] y x (suc k) e = absurd (none-some x e)
place_in_joined (z ∷ zs) y x zero e = inl e
place_in_joined (z ∷ zs) y x (suc k) e = elim (place_in_joined zs y x k e) [ inl f ↦ inl f | inr f ↦ inr (omega (arith, f.0), f.1) ]

listed : (xs : Items) (y : List ℕ) → IsIn xs y → list_any (bytes_eq y) xs ≡ true
listed [] y h = absurd (none-some y h.1)
listed (z ∷ zs) y h = elim (in_first z zs y h) [
  | inl e ↦ or_left (bytes_eq y z) (list_any (bytes_eq y) zs) ((bytes_eq-Decides y z).1 (sym e))
  | inr m ↦ or_right (bytes_eq y z) (list_any (bytes_eq y) zs) (listed zs y m)
]

joined_distinct : (xs : Items) (y : List ℕ) → list_any (bytes_eq y) xs ≡ false → Distinct xs → Distinct (xs ++ y ∷ [])
joined_distinct xs y none h j k x e f = elim (place_in_joined xs y x j e) [
  | inl a ↦ elim (place_in_joined xs y x k f) [
    | inl b ↦ h j k x a b
    | inr b ↦ absurd (false≢true (sym none ∙ listed xs y (j, rw b.1 a)))
  ]
  | inr a ↦ elim (place_in_joined xs y x k f) [
    | inl b ↦ absurd (false≢true (sym none ∙ listed xs y (k, rw a.1 b)))
    | inr b ↦ a.0 ∙ sym b.0
  ]
]

added_distinct : (xs : Items) (y : List ℕ) → Distinct xs → Distinct (added xs y)
unfolding added
added_distinct xs y h = elim (cases_Bool (list_any (bytes_eq y) xs)) [
  | inl e ↦ rw e h
  | inr e ↦ rw e (joined_distinct xs y e h)
]

all_distinct : (xs ys : Items) → Distinct xs → Distinct (added_all xs ys)
unfolding added_all
all_distinct xs [] h = h
all_distinct xs (y ∷ ys) h = all_distinct (added xs y) ys (added_distinct xs y h)

pub once_law : (xs : Items) → Once xs
once_law xs = record {
  all = λ x h. all_added [] xs x h;
  only = λ x h. only_these xs x h;
  once = all_distinct [] xs (λ j k x e f. absurd (none-some x e));
}
