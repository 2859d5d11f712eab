-- Lists in an order: each item stands in a relation to all after it. A sort by a key keeps the items and puts them in order.
use Rattle.std.proofs.Common.{◌≡◌, ◌<◌, ◌≤◌, ℕ, zero, suc, ◌+◌, List, [], ◌∷◌, ◌++◌, length, map, Bool, true, false, ◌⊎◌, inl, inr, Option, Some, None, refl, sym, ap, subst, ◌∙◌, arith, ltb-true}
use Rattle.std.specs.Prelude.{slice_get, nat_lt, if◌then◌else◌}
use Rattle.std.specs.List.{Contains, flat_map, filter, range_with_len}
use Rattle.std.proofs.lemmas.Bool.{ltb-false}
use Rattle.std.proofs.lemmas.List.Elements.{Contains-append_cases}
use Rattle.il_base.specs.declared.world_model.record.AsmRec.{AsmRec}
use Rattle.il_base.specs.world_model.Records.{EachPair}
use Rattle.rules.specs.type_rules.Rows.{each_from}
use Rattle.rules.specs.merge_rules.Numbers.{inputs_from, inputs}
use Rattle.rules.specs.merge_rules.Sorted.{put, put_all, by_key}
use Rattle.merge_laws.proofs.lemmas.merged_record.Lists.{none_in, first_in, later_in, one_is, head_or, place_in, from_map, from_flat, from_filter, from_each, from_inputs}

abbrev pub Ordered : {X : Type 0} → (X → X → Type 0) → List X → Type 0
Ordered R [] = Unit {0}
Ordered {X} R (x ∷ xs) = ((y : X) → Contains xs y → R x y) × Ordered R xs

pub pairs : {X : Type 0} (R : X → X → Type 0) (xs : List X) → Ordered R xs → EachPair R xs
pairs R [] up k row next e f = absurd (cc)
pairs {X} R (x ∷ xs) up zero row next e f = let same : x ≡ row = cc in subst (λ (z : X). R z next) same (up.0 next (place_in xs 0 next f))
pairs R (x ∷ xs) up (suc k) row next e f = pairs R xs up.1 k row next e f

-- a later item after an earlier one
pub later : {X : Type 0} (R : X → X → Type 0) (xs : List X) → Ordered R xs → (j k : ℕ) (x y : X) → j < k → slice_get xs j ≡ Some x → slice_get xs k ≡ Some y → R x y
later R [] up j k x y lt e f = absurd (cc)
later R (z ∷ xs) up j zero x y lt e f = absurd (omega arith)
later {X} R (z ∷ xs) up zero (suc k) x y lt e f = let same : z ≡ x = cc in subst (λ (w : X). R w y) same (up.0 y (place_in xs k y f))
later R (z ∷ xs) up (suc j) (suc k) x y lt e f = later R xs up.1 j k x y (omega arith) e f

pub weaker : {X : Type 0} (R S : X → X → Type 0) (xs : List X) → ((x y : X) → Contains xs x → Contains xs y → R x y → S x y) → Ordered R xs → Ordered S xs
weaker R S [] more up = tt
weaker R S (x ∷ xs) more up =
    (λ y c. more x y (first_in x xs) (later_in x xs y c) (up.0 y c), weaker R S xs (λ a b c d. more a b (later_in x xs a c) (later_in x xs b d)) up.1)

pub both : {X : Type 0} (R S T : X → X → Type 0) (xs : List X) → ((x y : X) → R x y → S x y → T x y) → Ordered R xs → Ordered S xs → Ordered T xs
both R S T [] more up down = tt
both R S T (x ∷ xs) more up down = (λ y c. more x y (up.0 y c) (down.0 y c), both R S T xs more up.1 down.1)

-- ---- lists made of lists

pub joined : {X : Type 0} (R : X → X → Type 0) (xs ys : List X) → Ordered R xs → Ordered R ys → ((x y : X) → Contains xs x → Contains ys y → R x y) → Ordered R (xs ++ ys)
joined R [] ys up down across = down
joined R (x ∷ xs) ys up down across = (
  λ y c. elim (Contains-append_cases xs ys y c) [ inl t ↦ up.0 y t | inr t ↦ across x y (first_in x xs) t ],
  joined R xs ys up.1 down (λ a b c d. across a b (later_in x xs a c) d),
)

pub flat : {X Y : Type 0} (R : X → X → Type 0) (S : Y → Y → Type 0) (g : X → List Y) (xs : List X) → Ordered R xs → ((x : X) → Contains xs x → Ordered S (g x))
    → ((a b : X) → Contains xs a → Contains xs b → R a b → (y z : Y) → Contains (g a) y → Contains (g b) z → S y z) → Ordered S (flat_map g xs)
flat R S g [] up each across = tt
flat R S g (x ∷ xs) up each across =
    joined S (g x) (flat_map g xs) (each x (first_in x xs)) (flat R S g xs up.1 (λ y c. each y (later_in x xs y c)) (λ a b c d. across a b (later_in x xs a c) (later_in x xs b d)))
    (λ y z c d. let r = from_flat g xs z d in across x r.item (first_in x xs) (later_in x xs r.item r.there) (up.0 r.item r.there) y z c r.inside)

pub each : {X Y : Type 0} (S : Y → Y → Type 0) (f : ℕ → X → List Y) (i : ℕ) (xs : List X) → ((k : ℕ) (x : X) → slice_get xs k ≡ Some x → Ordered S (f (i + k) x))
    → ((j k : ℕ) (a b : X) → j < k → slice_get xs j ≡ Some a → slice_get xs k ≡ Some b → (y z : Y) → Contains (f (i + j) a) y → Contains (f (i + k) b) z → S y z) → Ordered S (each_from f i xs)
each S f i [] here across = tt
each {X} {Y} S f i (x ∷ xs) here across =
    let n : i + 0 ≡ i = omega arith in
    let moved = λ (k : ℕ). let e : i + suc k ≡ suc i + k = omega arith in e in
    joined S (f i x) (each_from f (suc i) xs) (subst (λ (k : ℕ). Ordered S (f k x)) n (here 0 x refl))
    (each S f (suc i) xs (λ k y e. subst (λ (m : ℕ). Ordered S (f m y)) (moved k) (here (suc k) y e))
    (λ j k a b lt e g y z c d.
    across (suc j) (suc k) a b (omega arith) e g y z (subst (λ (m : ℕ). Contains (f m a) y) (sym (moved j)) c) (subst (λ (m : ℕ). Contains (f m b) z) (sym (moved k)) d)))
    (λ y z c d.
    let r = from_each f (suc i) xs z d in
    across 0 (suc r.place) x r.item (omega arith) refl r.there y z (subst (λ (m : ℕ). Contains (f m x) y) (sym n) c) (subst (λ (m : ℕ). Contains (f m r.item) z) (sym (moved r.place)) r.inside))

filter_by : {X : Type 0} (R : X → X → Type 0) (p : X → Bool) (b : Bool) (x : X) (xs : List X) → ((y : X) → Contains xs y → R x y) → Ordered R (filter p xs) → Ordered R (if b then x ∷ filter p xs else filter p xs)
filter_by R p true x xs first up = (λ y c. first y (from_filter p xs y c).0, up)
filter_by R p false x xs first up = up

pub filtered : {X : Type 0} (R : X → X → Type 0) (p : X → Bool) (xs : List X) → Ordered R xs → Ordered R (filter p xs)
filtered R p [] up = tt
filtered R p (x ∷ xs) up = filter_by R p (p x) x xs up.0 (filtered R p xs up.1)

pub mapped : {X Y : Type 0} (R : X → X → Type 0) (S : Y → Y → Type 0) (f : X → Y) (xs : List X) → ((a b : X) → Contains xs a → Contains xs b → R a b → S (f a) (f b)) → Ordered R xs → Ordered S (map f xs)
mapped R S f [] more up = tt
mapped {X} {Y} R S f (x ∷ xs) more up = (
  λ y c. let r = from_map f xs y c in subst (λ (z : Y). S (f x) z) r.2 (more x r.0 (first_in x xs) (later_in x xs r.0 r.1) (up.0 r.0 r.1)),
  mapped R S f xs (λ a b c d. more a b (later_in x xs a c) (later_in x xs b d)) up.1,
)

-- ---- numbers in a row

pub from_range : (a n k : ℕ) → Contains (range_with_len a n) k → (a ≤ k) × (k < a + n)
from_range a zero k c = absurd (none_in k c)
from_range a (suc n) k c =
    elim (head_or a (range_with_len (a + 1) n) k c) [
      | inl e ↦ (omega arith, omega arith)
      | inr t ↦ let r = from_range (a + 1) n k t in let ge = r.0 in let lt = r.1 in (omega arith, omega arith)
    ]

pub range_rises : (a n : ℕ) → Ordered (λ j k. j < k) (range_with_len a n)
range_rises a zero = tt
range_rises a (suc n) = (λ k c. let r = from_range (a + 1) n k c in let ge = r.0 in omega arith, range_rises (a + 1) n)

inputs_by : (a : ℕ) (recs : List AsmRec) → Ordered (λ (x y : ℕ × AsmRec). x.0 < y.0) (inputs_from a recs)
inputs_by a [] = tt
inputs_by a (rec ∷ []) = tt
inputs_by a (rec ∷ next ∷ recs) = (λ y c. let r = from_inputs (suc a) (next ∷ recs) y c in let n = r.number in omega arith, inputs_by (suc a) (next ∷ recs))

pub inputs_rise : (recs : List AsmRec) → Ordered (λ (x y : ℕ × AsmRec). x.0 < y.0) (inputs recs)
inputs_rise recs = inputs_by 0 recs

-- ---- a sort by a key

module _ {X : Type 0} (key : X → ℕ) where
  put_case : (b : Bool) (x y : X) (ys : List X) (z : X) → (Contains (put key x ys) z → (x ≡ z) ⊎ Contains ys z) → Contains (if b then x ∷ y ∷ ys else y ∷ put key x ys) z → (x ≡ z) ⊎ Contains (y ∷ ys) z
  put_case true x y ys z next c = head_or x (y ∷ ys) z c
  put_case false x y ys z next c =
      elim (head_or y (put key x ys) z c) [
        | inl e ↦ inr (0, omega arith, e)
        | inr t ↦ elim (next t) [ inl e ↦ inl e | inr s ↦ inr (later_in y ys z s) ]
      ]

  put_in : (x : X) (ys : List X) (z : X) → Contains (put key x ys) z → (x ≡ z) ⊎ Contains ys z
  put_in x [] z c = inl (one_is x z c)
  put_in x (y ∷ ys) z c = put_case (nat_lt (key x) (key y)) x y ys z (put_in x ys z) c

  all_in : (sorted xs : List X) (z : X) → Contains (put_all key sorted xs) z → Contains sorted z ⊎ Contains xs z
  unfolding put_all
  all_in sorted [] z c = inl c
  all_in sorted (x ∷ xs) z c =
      elim (all_in (put key x sorted) xs z c) [
        | inl t ↦ elim (put_in x sorted z t) [ inl e ↦ inr (0, omega arith, e) | inr s ↦ inl s ]
        | inr t ↦ inr (later_in x xs z t)
      ]

  pub sorted_in : (xs : List X) (z : X) → Contains (by_key key xs) z → Contains xs z
  sorted_in xs z c = elim (all_in [] xs z c) [ inl t ↦ absurd (none_in z t) | inr t ↦ t ]

  abbrev Least : X → X → Type 0
  Least a b = key a ≤ key b

  ordered_case : (b : Bool) (x y : X) (ys : List X) → nat_lt (key x) (key y) ≡ b → Ordered Least (y ∷ ys) → Ordered Least (put key x ys) → Ordered Least (if b then x ∷ y ∷ ys else y ∷ put key x ys)
  ordered_case true x y ys e up rest =
      let below : key x < key y = ltb-true (key x) (key y) e in
      (λ z c. elim (head_or y ys z c) [ inl s ↦ (let k : key y ≡ key z = ap key s in omega arith) | inr t ↦ (let le = up.0 z t in omega arith) ], up)
  ordered_case false x y ys e up rest =
      let le : key y ≤ key x = ltb-false (key x) (key y) e in
      (λ z c. elim (put_in x ys z c) [ inl s ↦ (let k : key x ≡ key z = ap key s in omega arith) | inr t ↦ up.0 z t ], rest)

  put_ordered : (x : X) (ys : List X) → Ordered Least ys → Ordered Least (put key x ys)
  put_ordered x [] up = (λ z c. absurd (none_in z c), tt)
  put_ordered x (y ∷ ys) up = ordered_case (nat_lt (key x) (key y)) x y ys refl up (put_ordered x ys up.1)

  all_ordered : (sorted xs : List X) → Ordered Least sorted → Ordered Least (put_all key sorted xs)
  unfolding put_all
  all_ordered sorted [] up = up
  all_ordered sorted (x ∷ xs) up = all_ordered (put key x sorted) xs (put_ordered x sorted up)

  pub sorted_up : (xs : List X) → Ordered (λ a b. key a ≤ key b) (by_key key xs)
  sorted_up xs = all_ordered [] xs tt

  -- keys that differ
  abbrev Apart : X → X → Type 0
  Apart a b = key a ≡ key b → ⊥

  apart_case : (b : Bool) (x y : X) (ys : List X) → ((z : X) → Contains (y ∷ ys) z → Apart x z) → Ordered Apart (y ∷ ys) → Ordered Apart (put key x ys) → Ordered Apart (if b then x ∷ y ∷ ys else y ∷ put key x ys)
  apart_case true x y ys new up rest = (new, up)
  apart_case false x y ys new up rest =
      (λ z c. elim (put_in x ys z c) [ inl s ↦ (λ e. new y (first_in y ys) (ap key s ∙ sym e)) | inr t ↦ up.0 z t ], rest)

  put_apart : (x : X) (ys : List X) → ((z : X) → Contains ys z → Apart x z) → Ordered Apart ys → Ordered Apart (put key x ys)
  put_apart x [] new up = (λ z c. absurd (none_in z c), tt)
  put_apart x (y ∷ ys) new up = apart_case (nat_lt (key x) (key y)) x y ys new up (put_apart x ys (λ z c. new z (later_in y ys z c)) up.1)

  all_apart : (sorted xs : List X) → Ordered Apart sorted → Ordered Apart xs → ((a b : X) → Contains sorted a → Contains xs b → Apart a b) → Ordered Apart (put_all key sorted xs)
  unfolding put_all
  all_apart sorted [] up down across = up
  all_apart sorted (x ∷ xs) up down across =
      all_apart (put key x sorted) xs (put_apart x sorted (λ z c e. across z x c (first_in x xs) (sym e)) up) down.1
      (λ a b c d. elim (put_in x sorted a c) [ inl s ↦ (λ e. down.0 b d (ap key s ∙ e)) | inr t ↦ across a b t (later_in x xs b d) ])

  pub sorted_rises : (xs : List X) → Ordered (λ a b. key a ≡ key b → ⊥) xs → Ordered (λ a b. key a < key b) (by_key key xs)
  sorted_rises xs apart =
      both Least Apart (λ a b. key a < key b) (by_key key xs) (λ a b le ne. less (key a) (key b) le ne) (sorted_up xs) (all_apart [] xs tt apart (λ a b c. absurd (none_in a c)))
    where
      less : (m n : ℕ) → m ≤ n → (m ≡ n → ⊥) → m < n
      less m n le ne = omega arith
