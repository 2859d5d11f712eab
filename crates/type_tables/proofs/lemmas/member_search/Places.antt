-- The places of rows that pass a test: their order, those of a run, and the first of a run that passes another test too.
use Rattle.std.proofs.Common.{◌≡◌, ℕ, zero, suc, ◌+◌, ◌-◌, ◌<◌, ◌≤◌, List, [], ◌∷◌, ◌++◌, length, take, drop, Bool, true, false, cond, nat_lt, ◌&&◌, Option, Some, None, inl, inr, get_or, refl, sym, ap, ◌∙◌, arith, add-zero, zero-add, length-append, length-take}
use Rattle.std.specs.Prelude.{slice_get, if◌then◌else◌}
use Rattle.std.specs.List.{position_from}
use Rattle.std.specs.List.Sorted.{IsNonDecreasing}
use Rattle.std.proofs.lemmas.Bool.{cases_lt}
use Rattle.std.proofs.lemmas.Bool.Decides.{nat_tests}
use Rattle.type_tables.specs.member_search.Names.{places, first_fitting}

-- ---- numbers in order

abbrev Within : ℕ → ℕ → List ℕ → Type 0
Within low high ks = (k d : ℕ) → k < length ks → (low ≤ get_or ks k d) × (get_or ks k d < high)

within_next : (b : Bool) (i high : ℕ) (ks : List ℕ) → i < high → Within (i + 1) high ks → Within i high (if b then i ∷ ks else ks)
within_next true i high ks h w zero d l = (omega arith, h)
within_next true i high ks h w (suc k) d l = let r = w k d (omega arith) in (omega (arith, r.0), r.1)
within_next false i high ks h w k d l = let r = w k d l in (omega (arith, r.0), r.1)

order_next : (b : Bool) (i high : ℕ) (ks : List ℕ) → Within (i + 1) high ks → IsNonDecreasing ks → IsNonDecreasing (if b then i ∷ ks else ks)
order_next true i high ks w o zero zero d h l = omega arith
order_next true i high ks w o zero (suc k) d h l = let r = w k d (omega arith) in omega (arith, r.0)
order_next true i high ks w o (suc j) zero d h l = absurd (omega arith)
order_next true i high ks w o (suc j) (suc k) d h l = o j k d (omega arith) (omega arith)
order_next false i high ks w o j k d h l = o j k d h l

none_within : (low high : ℕ) → Within low high []
none_within low high k d l = absurd (omega arith)

none_in_order : IsNonDecreasing []
none_in_order i j d h l = absurd (omega arith)

module _ {A : Type 0} (p : A → Bool) where
  places_within : (xs : List A) (i : ℕ) → Within i (i + length xs) (places p i xs)
  places_within [] i = none_within i (i + 0)
  places_within (x ∷ xs) i =
      let high : i + 1 + length xs ≡ i + suc (length xs) = omega arith in
      within_next (p x) i (i + suc (length xs)) (places p (i + 1) xs) (omega arith) (rw high at (places_within xs (i + 1)))

  pub places_in_order : (xs : List A) (i : ℕ) → IsNonDecreasing (places p i xs)
  places_in_order [] i = none_in_order
  places_in_order (x ∷ xs) i = order_next (p x) i (i + 1 + length xs) (places p (i + 1) xs) (places_within xs (i + 1)) (places_in_order xs (i + 1))

  -- ---- those before a place, and those from it on

  cut_next : (b : Bool) (i : ℕ) (before behind : List ℕ) → (if b then i ∷ (before ++ behind) else before ++ behind) ≡ (if b then i ∷ before else before) ++ behind
  cut_next true i before behind = refl
  cut_next false i before behind = refl

  places_cut : (xs : List A) (i s : ℕ) → places p i xs ≡ places p i (take s xs) ++ places p (i + s) (drop s xs)
  places_cut xs i zero = rw add-zero refl
  places_cut [] i (suc s) = refl
  places_cut (x ∷ xs) i (suc s) =
      let next : i + 1 + s ≡ i + suc s = omega arith in
      ap (λ (ks : List ℕ). if p x then i ∷ ks else ks) (places_cut xs (i + 1) s) ∙ cut_next (p x) i (places p (i + 1) (take s xs)) (places p (i + 1 + s) (drop s xs))
      ∙ ap (λ (k : ℕ). (if p x then i ∷ places p (i + 1) (take s xs) else places p (i + 1) (take s xs)) ++ places p k (drop s xs)) next

  -- ---- the first that fits

  past_next : (fits : ℕ → Bool) (b : Bool) (i end : ℕ) (ks : List ℕ) → end ≤ i → first_fitting fits end ks ≡ None → first_fitting fits end (if b then i ∷ ks else ks) ≡ None
  past_next fits true i end ks h e = let past : nat_lt i end ≡ false = grind (arith, nat_tests) in rw past refl
  past_next fits false i end ks h e = e

  none_past : (fits : ℕ → Bool) (xs : List A) (i end : ℕ) → end ≤ i → first_fitting fits end (places p i xs) ≡ None
  none_past fits [] i end h = refl
  none_past fits (x ∷ xs) i end h = past_next fits (p x) i end (places p (i + 1) xs) h (none_past fits xs (i + 1) end (omega arith))

  abbrev Fits : (A → Bool) → (ℕ → Bool) → ℕ → List A → Type 0
  Fits f fits i xs = (k : ℕ) (x : A) → slice_get xs k ≡ Some x → fits (i + k) ≡ f x

  first_next : (fits : ℕ → Bool) (b c : Bool) (i end : ℕ) (ks : List ℕ) (rest : Option ℕ) → nat_lt i end ≡ true → fits i ≡ c → first_fitting fits end ks ≡ rest
      → first_fitting fits end (if b then i ∷ ks else ks) ≡ cond (b && c) (Some i) rest
  first_next fits true true i end ks rest h c e = rw (h, c) refl
  first_next fits true false i end ks rest h c e = rw (h, c) e
  first_next fits false c i end ks rest h d e = e

  first_in_run : (f : A → Bool) (fits : ℕ → Bool) (xs : List A) (i end n : ℕ) → Fits f fits i xs → end - i ≡ n
      → first_fitting fits end (places p i xs) ≡ position_from (λ x. p x && f x) i (take n xs)
  first_in_run f fits xs i end zero w e = none_past fits xs i end (omega arith)
  first_in_run f fits [] i end (suc n) w e = refl
  first_in_run f fits (x ∷ xs) i end (suc n) w e =
      let before : nat_lt i end ≡ true = grind (arith, nat_tests) in
      let here : fits i ≡ f x = (rw add-zero at (w 0 x refl)) in
      let later : Fits f fits (i + 1) xs = λ k y h. (let k' : i + 1 + k ≡ i + suc k = omega arith in rw k' (w (suc k) y h)) in
      first_next fits (p x) (f x) i end (places p (i + 1) xs) (position_from (λ y. p y && f y) (i + 1) (take n xs)) before here
      (first_in_run f fits xs (i + 1) end n later (omega arith))

  -- ---- the first that fits in a run

  get_behind : (xs : List A) (n k : ℕ) → slice_get (drop n xs) k ≡ slice_get xs (n + k)
  get_behind xs zero k = rw zero-add refl
  get_behind [] (suc n) k = refl
  get_behind (x ∷ xs) (suc n) k = let e : suc n + k ≡ suc (n + k) = omega arith in rw e (get_behind xs n k)

  at_front : (before behind : List ℕ) (k : ℕ) → k < length before → get_or (before ++ behind) k 0 ≡ get_or before k 0
  at_front [] behind k h = absurd (omega arith)
  at_front (x ∷ before) behind zero h = refl
  at_front (x ∷ before) behind (suc k) h = at_front before behind k (omega arith)

  at_back : (before behind : List ℕ) → get_or (before ++ behind) (length before) 0 ≡ get_or behind 0 0
  at_back [] behind = refl
  at_back (x ∷ before) behind = at_back before behind

  drop_front : (before behind : List ℕ) → drop (length before) (before ++ behind) ≡ behind
  drop_front [] behind = refl
  drop_front (x ∷ before) behind = drop_front before behind

  -- where a list goes over from numbers before s to numbers from s on
  goes_over : (before behind : List ℕ) (low high s n : ℕ) → Within low s before → Within s high behind → n ≤ length (before ++ behind)
      → ((k : ℕ) → k < n → get_or (before ++ behind) k 0 < s) → ((k : ℕ) → n ≤ k → k < length (before ++ behind) → s ≤ get_or (before ++ behind) k 0)
      → drop n (before ++ behind) ≡ behind
  goes_over before behind low high s n w v within below above =
      let both : length (before ++ behind) ≡ length before + length behind = length-append before behind in
      elim (cases_lt n (length before)) [
        | inl less ↦ absurd (let e = at_front before behind n less in let l = (w n 0 less).1 in let a = above n (omega arith) (omega arith) in omega (arith, e, l, a))
        | inr more ↦ elim (cases_lt (length before) n) [
          | inl far ↦ absurd (let e = at_back before behind in let l = (v 0 0 (omega arith)).0 in let b = below (length before) far in omega (arith, e, l, b))
          | inr same ↦ (let is : n ≡ length before = omega arith in rw is (drop_front before behind))
        ]
      ]

  below_start : (xs : List A) (s : ℕ) → Within 0 s (places p 0 (take s xs))
  below_start xs s k d h =
      let r = places_within (take s xs) 0 k d h in
      let cut = length-take s xs in
      (r.0, omega (arith, r.1, cut))

  pub places_behind : (xs : List A) (s n : ℕ) → n ≤ length (places p 0 xs)
      → ((k : ℕ) → k < n → get_or (places p 0 xs) k 0 < s) → ((k : ℕ) → n ≤ k → k < length (places p 0 xs) → s ≤ get_or (places p 0 xs) k 0)
      → drop n (places p 0 xs) ≡ places p s (drop s xs)
  places_behind xs s n within below above =
      let cut : places p 0 xs ≡ places p 0 (take s xs) ++ places p s (drop s xs) = rw zero-add at (places_cut xs 0 s) in
      ap (drop n) cut
      ∙ goes_over (places p 0 (take s xs)) (places p s (drop s xs)) 0 (s + length (drop s xs)) s n (below_start xs s) (places_within (drop s xs) s)
      (rw cut at within) (rw cut at below) (rw cut at above)

  pub run_by_places : (f : A → Bool) (fits : ℕ → Bool) (xs : List A) (s count n : ℕ) → ((k : ℕ) (x : A) → slice_get xs k ≡ Some x → fits k ≡ f x) → n ≤ length (places p 0 xs)
      → ((k : ℕ) → k < n → get_or (places p 0 xs) k 0 < s) → ((k : ℕ) → n ≤ k → k < length (places p 0 xs) → s ≤ get_or (places p 0 xs) k 0)
      → first_fitting fits (s + count) (drop n (places p 0 xs)) ≡ position_from (λ x. p x && f x) s (take count (drop s xs))
  run_by_places f fits xs s count n w within below above =
      let later : Fits f fits s (drop s xs) = λ k x h. w (s + k) x (sym (get_behind xs s k) ∙ h) in
      ap (first_fitting fits (s + count)) (places_behind xs s n within below above) ∙ first_in_run f fits (drop s xs) s (s + count) count later (omega arith)
