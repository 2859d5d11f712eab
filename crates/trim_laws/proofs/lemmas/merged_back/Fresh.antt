-- A new name is free: of more numbers than names are taken, one isn't taken.
use Rattle.std.proofs.Common.{◌≡◌, ◌<◌, ◌≤◌, ◌^◌, ℕ, zero, suc, ◌+◌, Bool, true, false, nat_eq, List, [], ◌∷◌, ◌++◌, length, map, Some, ◌⊎◌, inl, inr, refl, sym, ap, ◌∙◌, arith, length-append}
use Rattle.std.specs.Prelude.{slice_get, codes, ◌||◌, ◌==◌, if◌then◌else◌}
use Rattle.std.specs.List.{list_any, filter, IsDistinct, AllByRecursion}
use Rattle.std.specs.Fmt.{decimal}
use Rattle.std.proofs.lemmas.Bool.{ne_eqb, true≢false, cases_lt}
use Rattle.std.proofs.lemmas.Bool.Decides.{Decides-eqb}
use Rattle.std.proofs.lemmas.Fmt.{decimal_injective, decimal_nonempty}
use Rattle.std.proofs.lemmas.List.{append_cancel_left, length-map}
use Rattle.std.proofs.lemmas.List.Folds.{list_any-append}
use Rattle.std.proofs.lemmas.Map.Keys.{IsDistinct-cons}
use Rattle.std.proofs.lemmas.Map.Steps.{length-le_from_distinct_below}
use Rattle.std.proofs.lemmas.Slice.Eq.{bytes_eq-Decides}
use Rattle.il_base.specs.declared.world_model.record.AsmRec.{AsmRec}
use Rattle.il_base.specs.world_model.Core.{same_name}
use Rattle.rules.specs.declared.link_rules.row_at.RowAt.{RowAt}
use Rattle.rules.specs.type_rules.Texts.{full_name_of}
use Rattle.base_laws.proofs.lemmas.type_laws.Within.{In, in_any}
use Rattle.rules.specs.merge_rules.Names.{NewName, is_top_level, old_name, namespace_of, renamed, numbered_name, free_from, has_name, fresh_name}
use Rattle.merge_laws.proofs.lemmas.merged_places.Rows.{place_within, same_some}

-- ---- names are lists of numbers

pub name_is : (x y : List ℕ) → same_name x y ≡ true → x ≡ y
name_is x y e = (bytes_eq-Decides x y).0 e

pub is_name : (x y : List ℕ) → x ≡ y → same_name x y ≡ true
is_name x y e = (bytes_eq-Decides x y).1 e

no_number : (name : List ℕ) (b : ℕ) → suc b < 2 ^ 64 → name ≡ name ++ decimal (suc b) → ⊥
no_number name b small e =
    let some = decimal_nonempty (suc b) small in
    let long = length-append name (decimal (suc b)) in
    let same = ap length e in
    omega (arith, some, long, same)

-- two numbers give two names
numbers_apart : (name : List ℕ) (a b : ℕ) → a < 2 ^ 64 → b < 2 ^ 64 → numbered_name name a ≡ numbered_name name b → a ≡ b
numbers_apart name zero zero p q e = refl
numbers_apart name zero (suc b) p q e = absurd (no_number name b q e)
numbers_apart name (suc a) zero p q e = absurd (no_number name a p (sym e))
numbers_apart name (suc a) (suc b) p q e = decimal_injective (suc a) (suc b) p q (append_cancel_left name (decimal (suc a)) (decimal (suc b)) e)

pub full_apart : (namespace x y : List ℕ) → full_name_of namespace x ≡ full_name_of namespace y → x ≡ y
full_apart [] x y e = e
full_apart (c ∷ cs) x y e = append_cancel_left ((c ∷ cs) ++ codes ".") x y e

-- ---- places of names that are taken

module _ (us : List (List ℕ)) where
  record Place (x : List ℕ) : Type 0 where
    place : ℕ
    there : slice_get us place ≡ Some x

place_by : (u : List ℕ) (us : List (List ℕ)) (x : List ℕ) (b : Bool) → same_name u x ≡ b → (list_any (λ v. same_name v x) us ≡ true → Place us x) → (b || list_any (λ v. same_name v x) us) ≡ true → Place (u ∷ us) x
place_by u us x true e more h = record { place = 0; there = ap (λ z. Some z) (name_is u x e) }
place_by u us x false e more h = let p = more h in record { place = suc p.place; there = p.there }

place_of : (us : List (List ℕ)) (x : List ℕ) → list_any (λ v. same_name v x) us ≡ true → Place us x
place_of [] x h = absurd (cc)
place_of (u ∷ us) x h = place_by u us x (same_name u x) refl (place_of us x) h

module _ (us : List (List ℕ)) (f : ℕ → List ℕ) (most : ℕ) (apart : (a b : ℕ) → a ≤ most → b ≤ most → f a ≡ f b → a ≡ b) where
  abbrev Taken : ℕ → Type 0
  Taken i = list_any (λ v. same_name v (f i)) us ≡ true

  -- of so many numbers from one on
  abbrev All : ℕ → ℕ → Type 0
  All n k = (i : ℕ) → k ≤ i → i < k + n → Taken i

  head : (n k : ℕ) → All (suc n) k → Taken k
  head n k all = all k (omega arith) (omega arith)

  rest : (n k : ℕ) → All (suc n) k → All n (suc k)
  rest n k all i ge lt = all i (omega (arith, ge)) (omega (arith, lt))

  abbrev places : (n k : ℕ) → All n k → List ℕ
  places zero k all = []
  places (suc n) k all = (place_of us (f k) (head n k all)).place ∷ places n (suc k) (rest n k all)

  record Of (n k q : ℕ) : Type 0 where
    number : ℕ
    from : k ≤ number
    to : number < k + n
    there : slice_get us q ≡ Some (f number)

  of_places : (n k : ℕ) (all : All n k) (q : ℕ) → In q (places n k all) → Of n k q
  of_places zero k all q h = absurd h
  of_places (suc n) k all q (inl e) =
      let p = place_of us (f k) (head n k all) in
      record { number = k; from = omega arith; to = omega arith; there = ap (slice_get us) e ∙ p.there }
  of_places (suc n) k all q (inr h) =
      let o = of_places n (suc k) (rest n k all) q h in
      let a = o.from in
      let b = o.to in
      record { number = o.number; from = omega (arith, a); to = omega (arith, b); there = o.there }

  all_from : (P : ℕ → Type 0) (xs : List ℕ) → ((x : ℕ) → In x xs → P x) → AllByRecursion P xs
  all_from P [] h = tt
  all_from P (x ∷ xs) h = (h x (inl refl), all_from P xs (λ y i. h y (inr i)))

  none_distinct : IsDistinct nat_eq []
  unfolding IsDistinct
  none_distinct = tt

  distinct : (n k : ℕ) (all : All n k) → k + n ≤ suc most → IsDistinct nat_eq (places n k all)
  distinct zero k all le = none_distinct
  distinct (suc n) k all le =
      let p = place_of us (f k) (head n k all) in
      IsDistinct-cons nat_eq p.place (places n (suc k) (rest n k all))
      (all_from (λ (q : ℕ). (p.place == q) ≡ false) (places n (suc k) (rest n k all))
      (λ q h.
      let o = of_places n (suc k) (rest n k all) q h in
      let a = o.from in
      let b = o.to in
      ne_eqb p.place q (λ e.
      let same : f k ≡ f o.number = same_some (f k) (f o.number) (sym p.there ∙ ap (slice_get us) e ∙ o.there) in
      let one = apart k o.number (omega (arith, le)) (omega (arith, b, le)) same in
      absurd (omega (arith, one, a)))))
      (distinct n (suc k) (rest n k all) (omega (arith, le)))

  long : (n k : ℕ) (all : All n k) → length (places n k all) ≡ n
  long zero k all = refl
  long (suc n) k all = ap suc (long n (suc k) (rest n k all))

  all_below : (n k : ℕ) (all : All n k) (q : ℕ) → list_any (nat_eq q) (places n k all) ≡ true → q < length us
  all_below n k all q h =
      let o = of_places n k all q (in_any nat_eq Decides-eqb q (places n k all) h) in
      place_within us q (f o.number) o.there

  pub not_all : length us ≤ most → All (suc most) 0 → ⊥
  not_all few all =
      let le = length-le_from_distinct_below (places (suc most) 0 all) (length us) (distinct (suc most) 0 all (omega arith)) (all_below (suc most) 0 all) in
      let n = long (suc most) 0 all in
      omega (arith, le, n, few)

-- ---- the first name that isn't taken

taken_by : (t : List ℕ → Bool) (name : List ℕ) (k n : ℕ) (b : Bool) → t (numbered_name name k) ≡ b → t (if b then free_from t name (suc k) n else numbered_name name k) ≡ true → (b ≡ true) × (t (free_from t name (suc k) n) ≡ true)
taken_by t name k n true e h = (refl, h)
taken_by t name k n false e h = absurd (true≢false (sym h ∙ e))

now_or_later : (k i : ℕ) → k ≤ i → (k ≡ i) ⊎ (suc k ≤ i)
now_or_later k i ge = elim (cases_lt k i) [ inl lt ↦ inr (omega (arith, lt)) | inr le ↦ inl (omega (arith, ge, le)) ]

all_taken : (t : List ℕ → Bool) (name : List ℕ) (n k : ℕ) → t (free_from t name k n) ≡ true → (i : ℕ) → k ≤ i → i ≤ k + n → t (numbered_name name i) ≡ true
all_taken t name zero k h i ge le = let same : k ≡ i = omega (arith, ge, le) in ap (λ (j : ℕ). t (numbered_name name j)) (sym same) ∙ h
all_taken t name (suc n) k h i ge le =
    let b = taken_by t name k n (t (numbered_name name k)) refl h in
    elim (now_or_later k i ge) [
      | inl same ↦ ap (λ (j : ℕ). t (numbered_name name j)) (sym same) ∙ b.0
      | inr lt ↦ all_taken t name n (suc k) b.1 i lt (omega (arith, le))
    ]

module _ (recs : List AsmRec) (kept : List RowAt) (names : List NewName) (at : RowAt) (small : length kept + length names < 2 ^ 64) where
  abbrev full : List ℕ → List ℕ
  full name = full_name_of (namespace_of recs at) name

  -- the names that are taken
  abbrev those : List (List ℕ)
  those = map (old_name recs) (filter (is_top_level recs) kept) ++ map (λ (n : NewName). full_name_of (namespace_of recs n.typ) n.name) names

  any_map : {A : Type 0} (f : A → List ℕ) (xs : List A) (x : List ℕ) → list_any (λ v. same_name v x) (map f xs) ≡ list_any (λ a. same_name (f a) x) xs
  any_map f [] x = refl
  any_map f (a ∷ xs) x = ap (λ (b : Bool). same_name (f a) x || b) (any_map f xs x)

  taken_is : (x : List ℕ) → has_name recs kept names x ≡ list_any (λ v. same_name v x) those
  taken_is x =
      (λ i. sym (any_map (old_name recs) (filter (is_top_level recs) kept) x) i || sym (any_map (λ (n : NewName). full_name_of (namespace_of recs n.typ) n.name) names x) i)
      ∙ sym (list_any-append (λ v. same_name v x) (map (old_name recs) (filter (is_top_level recs) kept)) (map (λ (n : NewName). full_name_of (namespace_of recs n.typ) n.name) names))

  fewer_by : {A : Type 0} (p : A → Bool) (x : A) (xs : List A) (b : Bool) → length (filter p xs) ≤ length xs → length (if b then x ∷ filter p xs else filter p xs) ≤ suc (length xs)
  fewer_by p x xs true le = omega (arith, le)
  fewer_by p x xs false le = omega (arith, le)

  fewer : {A : Type 0} (p : A → Bool) (xs : List A) → length (filter p xs) ≤ length xs
  fewer p [] = omega arith
  fewer p (x ∷ xs) = fewer_by p x xs (p x) (fewer p xs)

  few : length those ≤ length kept + length names
  few =
      let joined = length-append (map (old_name recs) (filter (is_top_level recs) kept)) (map (λ (n : NewName). full_name_of (namespace_of recs n.typ) n.name) names) in
      let a = length-map (filter (is_top_level recs) kept) (old_name recs) in
      let b = length-map names (λ (n : NewName). full_name_of (namespace_of recs n.typ) n.name) in
      let c = fewer (is_top_level recs) kept in
      omega (arith, joined, a, b, c)

  apart : (a b : ℕ) → a ≤ length kept + length names → b ≤ length kept + length names → full (numbered_name (renamed recs at) a) ≡ full (numbered_name (renamed recs at) b) → a ≡ b
  apart a b p q e = numbers_apart (renamed recs at) a b (omega (arith, p, small)) (omega (arith, q, small)) (full_apart (namespace_of recs at) (numbered_name (renamed recs at) a) (numbered_name (renamed recs at) b) e)

  -- the new name isn't taken
  pub is_free : has_name recs kept names (full (fresh_name recs kept names at)) ≡ false
  is_free = by_test (has_name recs kept names (full (fresh_name recs kept names at))) refl
    where
      by_test : (b : Bool) → has_name recs kept names (full (fresh_name recs kept names at)) ≡ b → b ≡ false
      by_test false e = refl
      by_test true e =
          absurd (not_all those (λ (i : ℕ). full (numbered_name (renamed recs at) i)) (length kept + length names) apart few
          (λ i ge lt. sym (taken_is (full (numbered_name (renamed recs at) i)))
          ∙ all_taken (λ name. has_name recs kept names (full name)) (renamed recs at) (length kept + length names) 0 e i ge (omega (arith, lt))))
