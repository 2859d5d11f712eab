-- Texts that are written once: each has a place of its own in the heap.
use Rattle.std.proofs.Common.{◌≡◌, ◌<◌, ◌≤◌, ℕ, suc, ◌+◌, List, [], ◌∷◌, ◌++◌, length, Bool, true, false, inl, inr, refl, sym, ◌∙◌, arith, length-append}
use Rattle.std.specs.Prelude.{bytes_eq, if◌then◌else◌}
use Rattle.std.specs.List.{flat_map}
use Rattle.std.proofs.lemmas.Slice.Eq.{bytes_eq-Decides}
use Rattle.rules.specs.file_layout.Bytes.{padded}
use Rattle.rules.specs.file_layout.Interning.{place_among}
use Rattle.rules.specs.file_layout.Heaps.{last_byte, units_bytes, user_item, users_heap, user_place}
use Rattle.base_laws.proofs.lemmas.type_laws.Within.{In}

bytes_same : (xs ys : List ℕ) → bytes_eq xs ys ≡ true → xs ≡ ys
bytes_same xs ys e = (bytes_eq-Decides xs ys).0 e

differ : (x y : List ℕ) → bytes_eq y x ≡ false → x ≡ y → ⊥
differ x y e f = let g : bytes_eq y x ≡ true = (bytes_eq-Decides y x).1 (sym f) in cc

module _ (written : List ℕ → List ℕ) (some : (x : List ℕ) → 0 < length (written x)) where
  from_by : (at k n : ℕ) (b : Bool) → at ≤ k → at ≤ n → at ≤ (if b then k else n)
  from_by at k n true h g = h
  from_by at k n false h g = g

  place_from : (at : ℕ) (ys : List (List ℕ)) (x : List ℕ) → at ≤ place_among written at ys x
  unfolding place_among
  place_from at [] x = omega arith
  place_from at (y ∷ ys) x =
      let h : at + length (written y) ≤ place_among written (at + length (written y)) ys x = place_from (at + length (written y)) ys x in
      from_by at at (place_among written (at + length (written y)) ys x) (bytes_eq y x) (omega arith) (omega arith)

  later_in : (x y : List ℕ) (ys : List (List ℕ)) → bytes_eq y x ≡ false → In x (y ∷ ys) → In x ys
  later_in x y ys e (inl f) = absurd (differ x y e f)
  later_in x y ys e (inr h) = h

  within_by : (at n : ℕ) (x y : List ℕ) (ys : List (List ℕ)) (b : Bool) → bytes_eq y x ≡ b → In x (y ∷ ys) → n ≡ at + length (written y) + length (flat_map written ys)
      → (In x ys → place_among written (at + length (written y)) ys x < n)
      → (if b then at else place_among written (at + length (written y)) ys x) < n
  within_by at n x y ys true e h f later = let g : 0 < length (written y) = some y in omega arith
  within_by at n x y ys false e h f later = later (later_in x y ys e h)

  pub place_within : (at n : ℕ) (ys : List (List ℕ)) (x : List ℕ) → In x ys → n ≡ at + length (flat_map written ys) → place_among written at ys x < n
  unfolding place_among
  place_within at n [] x h e = absurd h
  place_within at n (y ∷ ys) x h e =
      let f : length (written y ++ flat_map written ys) ≡ length (written y) + length (flat_map written ys) = length-append (written y) (flat_map written ys) in
      let g : n ≡ at + length (written y) + length (flat_map written ys) = omega arith in
      within_by at n x y ys (bytes_eq y x) refl h g (λ w. place_within (at + length (written y)) n ys x w g)

  apart_by : (at : ℕ) (x z y : List ℕ) (ys : List (List ℕ)) (b c : Bool) → bytes_eq y x ≡ b → bytes_eq y z ≡ c → In x (y ∷ ys) → In z (y ∷ ys)
      → (if b then at else place_among written (at + length (written y)) ys x) ≡ (if c then at else place_among written (at + length (written y)) ys z)
      → (In x ys → In z ys → place_among written (at + length (written y)) ys x ≡ place_among written (at + length (written y)) ys z → x ≡ z) → x ≡ z
  apart_by at x z y ys true true e f h g same later = sym (bytes_same y x e) ∙ bytes_same y z f
  apart_by at x z y ys true false e f h g same later =
      let n : at + length (written y) ≤ place_among written (at + length (written y)) ys z = place_from (at + length (written y)) ys z in
      let m : 0 < length (written y) = some y in absurd (omega arith)
  apart_by at x z y ys false true e f h g same later =
      let n : at + length (written y) ≤ place_among written (at + length (written y)) ys x = place_from (at + length (written y)) ys x in
      let m : 0 < length (written y) = some y in absurd (omega arith)
  apart_by at x z y ys false false e f h g same later = later (later_in x y ys e h) (later_in z y ys f g) same

  -- two texts with one place are one
  pub places_apart : (at : ℕ) (ys : List (List ℕ)) (x z : List ℕ) → In x ys → In z ys → place_among written at ys x ≡ place_among written at ys z → x ≡ z
  unfolding place_among
  places_apart at [] x z h g e = absurd h
  places_apart at (y ∷ ys) x z h g e =
      apart_by at x z y ys (bytes_eq y x) (bytes_eq y z) refl refl h g e (places_apart (at + length (written y)) ys x z)

-- ---- user texts

some_bytes : (a b : List ℕ) (k : ℕ) → 0 < length (a ++ b ++ k ∷ [])
some_bytes a b k = let e : length (a ++ b ++ k ∷ []) ≡ length (a ++ b) + 1 = length-append (a ++ b) (k ∷ []) in omega arith

item_bytes : (units : List ℕ) → 0 < length (user_item units)
unfolding user_item
item_bytes units = some_bytes _ (units_bytes units) (last_byte units)

heap_at_least : (texts : List (List ℕ)) → suc (length (flat_map user_item texts)) ≤ length (users_heap texts)
unfolding users_heap
heap_at_least texts = let e : length (padded 4 (0 ∷ flat_map user_item texts)) ≡ suc (length (flat_map user_item texts)) + _ = length-append (0 ∷ flat_map user_item texts) _ in omega arith

pub user_place_within : (texts : List (List ℕ)) (x : List ℕ) → In x texts → user_place texts x < length (users_heap texts)
unfolding user_place
user_place_within texts x h =
    let g : user_place texts x < 1 + length (flat_map user_item texts) = place_within user_item item_bytes 1 (1 + length (flat_map user_item texts)) texts x h refl in
    let f : suc (length (flat_map user_item texts)) ≤ length (users_heap texts) = heap_at_least texts in
    omega arith

pub user_places_apart : (texts : List (List ℕ)) (x z : List ℕ) → In x texts → In z texts → user_place texts x ≡ user_place texts z → x ≡ z
unfolding user_place
user_places_apart texts x z h g e = places_apart user_item item_bytes 1 texts x z h g e
