-- Kept rows of inputs by their numbers: a kept row's place among them is how many kept numbers are below its own.
use Rattle.std.proofs.Common.{◌≡◌, ◌<◌, ◌≤◌, ℕ, zero, suc, ◌+◌, ◌-◌, Bool, true, false, cond, nat_eq, nat_lt, List, [], ◌∷◌, ◌++◌, length, map, Option, Some, None, ◌⊎◌, inl, inr, refl, sym, ap, subst, ◌∙◌, arith}
use Rattle.std.specs.Prelude.{slice_get, ◌&&◌, ◌||◌}
use Rattle.std.specs.List.{flat_map, filter, position_from, range_with_len}
use Rattle.std.proofs.lemmas.Bool.{lt-ltb, le-ltb, eq-eqb, ne_eqb, cases_eq, cases_lt}
use Rattle.std.proofs.lemmas.List.{map-append, length-map}
use Rattle.std.proofs.lemmas.Iterator.Adapters.{position_from-zero}
use Rattle.il_base.specs.declared.ids.Item.{Item}
use Rattle.il_base.specs.declared.world_model.record.AsmRec.{AsmRec}
use Rattle.il_base.specs.world_model.Worlds.{rows_before}
use Rattle.rules.specs.declared.link_rules.row_at.RowAt.{RowAt}
use Rattle.rules.specs.link_rules.Types.{at_row}
use Rattle.rules.specs.link_rules.Cycles.{same_row}
use Rattle.rules.specs.merge_rules.Numbers.{Kept, inputs_from, rows_of_kind, kept_rows, new_row}
use Rattle.rules.specs.merge_rules.Rows.{is_before, run_at}
use Rattle.rules.specs.merged_world_rules.Numbering.{in_inputs, number_at}
use Rattle.merge_laws.proofs.lemmas.merged_places.Ranks.{rank, rank_from, rank_step, rank_none, below_is_rank, all_is_rank}
use Rattle.merge_laws.proofs.lemmas.merged_places.Rows.{row_itself, rows_one, IsThere, number_before, stretch_before, one_by_number}

-- ---- what is so of each row of a list

abbrev pub Every : (RowAt → Type 0) → List RowAt → Type 0
Every P [] = Unit {0}
Every P (x ∷ xs) = P x × Every P xs

module _ (P : RowAt → Type 0) where
  pub every_append : (xs ys : List RowAt) → Every P xs → Every P ys → Every P (xs ++ ys)
  every_append [] ys hs gs = gs
  every_append (x ∷ xs) ys hs gs = (hs.0, every_append xs ys hs.1 gs)

  pub every_at : (xs : List RowAt) (k : ℕ) (x : RowAt) → Every P xs → slice_get xs k ≡ Some x → P x
  every_at [] k x hs e = absurd (cc)
  every_at (y ∷ xs) zero x hs e = let same : y ≡ x = cc in subst P same hs.0
  every_at (y ∷ xs) (suc k) x hs e = every_at xs k x hs.1 e

-- with the test that it passed
passed_by : (P : RowAt → Type 0) (p : RowAt → Bool) (b : Bool) (x : RowAt) (xs : List RowAt) → p x ≡ b → P x → Every (λ y. P y × (p y ≡ true)) xs → Every (λ y. P y × (p y ≡ true)) (cond b (x ∷ xs) xs)
passed_by P p true x xs e h hs = ((h, e), hs)
passed_by P p false x xs e h hs = hs

every_passed : (P : RowAt → Type 0) (p : RowAt → Bool) (xs : List RowAt) → Every P xs → Every (λ y. P y × (p y ≡ true)) (filter p xs)
every_passed P p [] hs = tt
every_passed P p (x ∷ xs) hs = passed_by P p (p x) x (filter p xs) refl hs.0 (every_passed P p xs hs.1)

-- ---- lists by numbers

mapped_by : (q : ℕ → Bool) (f : RowAt → ℕ) (b : Bool) (x : RowAt) (xs : List RowAt) → map f (cond b (x ∷ xs) xs) ≡ cond b (f x ∷ map f xs) (map f xs)
mapped_by q f true x xs = refl
mapped_by q f false x xs = refl

map_filter : (q : ℕ → Bool) (f : RowAt → ℕ) (xs : List RowAt) → map f (filter (λ x. q (f x)) xs) ≡ filter q (map f xs)
map_filter q f [] = refl
map_filter q f (x ∷ xs) = mapped_by q f (q (f x)) x (filter (λ x. q (f x)) xs) ∙ ap (λ (ys : List ℕ). cond (q (f x)) (f x ∷ ys) ys) (map_filter q f xs)

range_split : (s n m : ℕ) → range_with_len s (n + m) ≡ range_with_len s n ++ range_with_len (s + n) m
range_split s zero m =
    let a : s ≡ s + 0 = omega arith in
    let b : 0 + m ≡ m = omega arith in
    λ i. range_with_len (a i) (b i)
range_split s (suc n) m =
    let a : suc n + m ≡ suc (n + m) = omega arith in
    let b : s + 1 + n ≡ s + suc n = omega arith in
    ap (range_with_len s) a ∙ ap (λ (xs : List ℕ). s ∷ xs) (range_split (s + 1) n m ∙ ap (λ (k : ℕ). range_with_len (s + 1) n ++ range_with_len k m) b)

module _ (count : AsmRec → ℕ) (recs : List AsmRec) where
  -- ---- the rows of all inputs

  stretch_numbers : (a s n : ℕ) → map (number_at count recs) (map (at_row a) (range_with_len s n)) ≡ range_with_len (rows_before count recs a + s) n
  stretch_numbers a s zero = refl
  stretch_numbers a s (suc n) =
      let z : rows_before count recs a + (s + 1) ≡ rows_before count recs a + s + 1 = omega arith in
      ap (λ (xs : List ℕ). (rows_before count recs a + s) ∷ xs) (stretch_numbers a (s + 1) n ∙ ap (λ (k : ℕ). range_with_len k n) z)

  abbrev rows_in : ℕ × AsmRec → List RowAt
  rows_in x = map (at_row x.0) (range_with_len 0 (count x.1))

  numbers_from : (rest : List AsmRec) (a before m : ℕ) → ((k : ℕ) → rows_before count recs (a + k) ≡ before + rows_before count rest k) → m ≡ length rest - 1
      → map (number_at count recs) (flat_map rows_in (inputs_from a rest)) ≡ range_with_len before (rows_before count rest m)
  unfolding rows_before
  numbers_from [] a before zero h long = refl
  numbers_from [] a before (suc m) h long = absurd (omega (arith, long))
  numbers_from (rec ∷ []) a before zero h long = refl
  numbers_from (rec ∷ []) a before (suc m) h long = absurd (omega (arith, long))
  numbers_from (rec ∷ next ∷ rest) a before zero h long = absurd (omega (arith, long))
  numbers_from (rec ∷ next ∷ rest) a before (suc m) h long =
      let a0 : a ≡ a + 0 = omega arith in
      let here : rows_before count recs a + 0 ≡ before = ap (λ (k : ℕ). rows_before count recs k + 0) a0 ∙ plus (rows_before count recs (a + 0)) before (h 0) in
      let first : map (number_at count recs) (rows_in (a, rec)) ≡ range_with_len before (count rec) =
      stretch_numbers a 0 (count rec) ∙ ap (λ (k : ℕ). range_with_len k (count rec)) here in
      let more = numbers_from (next ∷ rest) (suc a) (before + count rec) m (λ k. let z : suc a + k ≡ a + suc k = omega arith in ap (rows_before count recs) z ∙ h (suc k) ∙ add_assoc before (count rec) (rows_before count (next ∷ rest) k)) (omega (arith, long)) in
      map-append (number_at count recs) (rows_in (a, rec)) (flat_map rows_in (inputs_from (suc a) (next ∷ rest)))
      ∙ (λ i. first i ++ more i)
      ∙ sym (range_split before (count rec) (rows_before count (next ∷ rest) m))
    where
      plus : (n b : ℕ) → n ≡ b + 0 → n + 0 ≡ b
      plus n b e = omega (arith, e)

      add_assoc : (a b c : ℕ) → a + (b + c) ≡ a + b + c
      add_assoc a b c = omega arith

  pub all_numbers : map (number_at count recs) (rows_of_kind count recs) ≡ range_with_len 0 (in_inputs count recs)
  all_numbers = numbers_from recs 0 0 (length recs - 1) (λ k. let z : 0 + k ≡ k = omega arith in ap (rows_before count recs) z ∙ plus_zero (rows_before count recs k)) refl
    where
      plus_zero : (n : ℕ) → n ≡ 0 + n
      plus_zero n = omega arith

  -- a row of an input
  abbrev pub IsInput : RowAt → Type 0
  IsInput at = IsThere count recs at × (suc at.asm < length recs)

  stretch_rows : (a : ℕ) (rec : AsmRec) → slice_get recs a ≡ Some rec → suc a < length recs → (s n : ℕ) → s + n ≤ count rec → Every IsInput (map (at_row a) (range_with_len s n))
  stretch_rows a rec e lt s zero le = tt
  stretch_rows a rec e lt s (suc n) le = ((record { rec = rec; here = e; below = omega arith }, lt), stretch_rows a rec e lt (s + 1) n (omega arith))

  inputs_rows : (rest : List AsmRec) (a : ℕ) → ((k : ℕ) → slice_get rest k ≡ slice_get recs (a + k)) → a + length rest ≡ length recs → Every IsInput (flat_map rows_in (inputs_from a rest))
  inputs_rows [] a same long = tt
  inputs_rows (rec ∷ []) a same long = tt
  inputs_rows (rec ∷ next ∷ rest) a same long =
      every_append IsInput (rows_in (a, rec)) (flat_map rows_in (inputs_from (suc a) (next ∷ rest)))
      (stretch_rows a rec (let z : a ≡ a + 0 = omega arith in ap (slice_get recs) z ∙ sym (same 0)) (omega (arith, long)) 0 (count rec) (omega arith))
      (inputs_rows (next ∷ rest) (suc a) (λ k. let z : a + suc k ≡ suc a + k = omega arith in same (suc k) ∙ ap (slice_get recs) z) (omega (arith, long)))

  pub all_inputs : Every IsInput (rows_of_kind count recs)
  all_inputs = inputs_rows recs 0 (λ k. let z : k ≡ 0 + k = omega arith in ap (slice_get recs) z) (omega arith)

  -- ---- one row by its number

  number_tells : (x y : RowAt) → IsThere count recs x → IsThere count recs y → same_row x y ≡ nat_eq (number_at count recs x) (number_at count recs y)
  number_tells x y p q = by_case (cases_eq (number_at count recs x) (number_at count recs y))
    where
      not_same : (b : Bool) → same_row x y ≡ b → (x ≡ y → ⊥) → b ≡ false
      not_same true e differ = absurd (differ (rows_one x y e))
      not_same false e differ = refl

      by_case : (number_at count recs x ≡ number_at count recs y) ⊎ (number_at count recs x ≡ number_at count recs y → ⊥) → same_row x y ≡ nat_eq (number_at count recs x) (number_at count recs y)
      by_case (inl e) =
          let one : x ≡ y = one_by_number count recs x y p q e in
          ap (same_row x) (sym one) ∙ row_itself x ∙ sym (eq-eqb (number_at count recs x) (number_at count recs y) e)
      by_case (inr differ) =
          not_same (same_row x y) refl (λ one. differ (ap (number_at count recs) one)) ∙ sym (ne_eqb (number_at count recs x) (number_at count recs y) differ)

  first_by_number : (at : RowAt) → IsThere count recs at → (xs : List RowAt) (d : ℕ) → Every IsInput xs
      → position_from (same_row at) d xs ≡ position_from (nat_eq (number_at count recs at)) d (map (number_at count recs) xs)
  first_by_number at is [] d hs = refl
  first_by_number at is (x ∷ xs) d hs =
      (λ i. cond (number_tells at x is hs.0.0 i) (Some d) (first_by_number at is xs (d + 1) hs.1 i))

  -- a row of the core library is none of the inputs'
  not_by : (at x : RowAt) (d : ℕ) (rest : Option ℕ) → suc at.asm ≡ length recs → suc x.asm < length recs → rest ≡ None → (b : Bool) → same_row at x ≡ b → cond b (Some d) rest ≡ None
  not_by at x d rest e lt more false t = more
  not_by at x d rest e lt more true t = let same : at.asm ≡ x.asm = ap (λ (r : RowAt). r.asm) (rows_one at x t) in absurd (omega (arith, same, lt, e))

  not_input : (at : RowAt) → suc at.asm ≡ length recs → (xs : List RowAt) (d : ℕ) → Every IsInput xs → position_from (same_row at) d xs ≡ None
  not_input at e [] d hs = refl
  not_input at e (x ∷ xs) d hs = not_by at x d (position_from (same_row at) (d + 1) xs) e hs.0.1 (not_input at e xs (d + 1) hs.1) (same_row at x) refl

-- ---- the place of a number among those that pass a test

module _ (p : ℕ → Bool) where
  placed_by : (b : Bool) (s len n d : ℕ) → p s ≡ b → s ≤ n → n < s + suc len → p n ≡ true
      → (s + 1 ≤ n → position_from (nat_eq n) (d + cond b 1 0) (filter p (range_with_len (s + 1) len)) ≡ Some (d + cond b 1 0 + rank_from p (s + 1) (n - (s + 1))))
      → position_from (nat_eq n) d (cond b (s ∷ filter p (range_with_len (s + 1) len)) (filter p (range_with_len (s + 1) len))) ≡ Some (d + rank_from p s (n - s))
  placed_by true s len n d e le lt h more = by_case (cases_eq n s)
    where
      by_case : (n ≡ s) ⊎ (n ≡ s → ⊥) → cond (nat_eq n s) (Some d) (position_from (nat_eq n) (d + 1) (filter p (range_with_len (s + 1) len))) ≡ Some (d + rank_from p s (n - s))
      by_case (inl same) =
          let none : rank_from p s (n - s) ≡ 0 = ap (rank_from p s) (omega (arith, same)) ∙ rank_none p s in
          ap (λ (b : Bool). cond b (Some d) (position_from (nat_eq n) (d + 1) (filter p (range_with_len (s + 1) len)))) (eq-eqb n s same) ∙ ap Some (omega (arith, none))
      by_case (inr differ) =
          let gt : s + 1 ≤ n = above differ in
          let one : rank_from p s (n - s) ≡ 1 + rank_from p (s + 1) (n - (s + 1)) =
          ap (rank_from p s) (omega (arith, gt)) ∙ rank_step p s (n - (s + 1)) ∙ ap (λ (b : Bool). cond b 1 0 + rank_from p (s + 1) (n - (s + 1))) e in
          ap (λ (b : Bool). cond b (Some d) (position_from (nat_eq n) (d + 1) (filter p (range_with_len (s + 1) len)))) (ne_eqb n s differ)
          ∙ more gt ∙ ap Some (omega (arith, one))
        where
          above : (n ≡ s → ⊥) → s + 1 ≤ n
          above differ = elim (cases_lt n (s + 1)) [ inl low ↦ absurd (differ (omega (arith, low, le))) | inr high ↦ high ]
  placed_by false s len n d e le lt h more = by_case (cases_eq n s)
    where
      by_case : (n ≡ s) ⊎ (n ≡ s → ⊥) → position_from (nat_eq n) d (filter p (range_with_len (s + 1) len)) ≡ Some (d + rank_from p s (n - s))
      by_case (inl same) = let bad : true ≡ false = sym h ∙ ap p same ∙ e in absurd (cc)
      by_case (inr differ) =
          let gt : s + 1 ≤ n = above differ in
          let one : rank_from p s (n - s) ≡ rank_from p (s + 1) (n - (s + 1)) =
          ap (rank_from p s) (omega (arith, gt)) ∙ rank_step p s (n - (s + 1)) ∙ ap (λ (b : Bool). cond b 1 0 + rank_from p (s + 1) (n - (s + 1))) e ∙ omega arith in
          let d0 : d + 0 ≡ d = omega arith in
          ap (λ (k : ℕ). position_from (nat_eq n) k (filter p (range_with_len (s + 1) len))) (sym d0) ∙ more gt ∙ ap Some (omega (arith, one))
        where
          above : (n ≡ s → ⊥) → s + 1 ≤ n
          above differ = elim (cases_lt n (s + 1)) [ inl low ↦ absurd (differ (omega (arith, low, le))) | inr high ↦ high ]

  placed_from : (s len n d : ℕ) → s ≤ n → n < s + len → p n ≡ true → position_from (nat_eq n) d (filter p (range_with_len s len)) ≡ Some (d + rank_from p s (n - s))
  placed_from s zero n d le lt h = absurd (omega arith)
  placed_from s (suc len) n d le lt h =
      placed_by (p s) s len n d refl le lt h (λ l. placed_from (s + 1) len n (d + cond (p s) 1 0) l (omega arith) h)

  pub placed_at_rank : (all n : ℕ) → n < all → p n ≡ true → position_from (nat_eq n) 0 (filter p (range_with_len 0 all)) ≡ Some (rank p n)
  unfolding rank
  placed_at_rank all n lt h =
      let z : n - 0 ≡ n = omega arith in
      let y : 0 + rank_from p 0 n ≡ rank_from p 0 n = omega arith in
      placed_from 0 all n 0 (omega arith) (omega (arith, lt)) h ∙ ap (λ (k : ℕ). Some (0 + rank_from p 0 k)) z ∙ ap Some y

-- ---- kept rows

module _ (count : AsmRec → ℕ) (recs : List AsmRec) (number_item : ℕ → Item) (kept : Kept) where
  -- whether a number is of a kept item
  abbrev pub keeps : ℕ → Bool
  keeps n = kept (number_item n)

  abbrev pub those : List RowAt
  those = kept_rows count (λ at. number_item (number_at count recs at)) recs kept

  pub kept_numbers : map (number_at count recs) those ≡ filter keeps (range_with_len 0 (in_inputs count recs))
  kept_numbers = map_filter keeps (number_at count recs) (rows_of_kind count recs) ∙ ap (filter keeps) (all_numbers count recs)

  pub how_many : length those ≡ rank keeps (in_inputs count recs)
  how_many = sym (length-map those (number_at count recs)) ∙ ap length kept_numbers ∙ all_is_rank keeps (in_inputs count recs)

  -- a kept row of an input
  abbrev pub IsKept : RowAt → Type 0
  IsKept at = IsInput count recs at × (keeps (number_at count recs at) ≡ true)

  pub all_kept : Every IsKept those
  all_kept = every_passed (IsInput count recs) (λ at. keeps (number_at count recs at)) (rows_of_kind count recs) (all_inputs count recs)

  kept_inputs : (xs : List RowAt) → Every IsKept xs → Every (IsInput count recs) xs
  kept_inputs [] hs = tt
  kept_inputs (x ∷ xs) hs = (hs.0.0, kept_inputs xs hs.1)

  pub kept_at : (j : ℕ) (at : RowAt) → slice_get those j ≡ Some at → IsKept at
  kept_at j at e = every_at IsKept those j at all_kept e

  pub new_row_is : (at : RowAt) → IsThere count recs at → number_at count recs at < in_inputs count recs → keeps (number_at count recs at) ≡ true
      → new_row those at ≡ Some (rank keeps (number_at count recs at))
  new_row_is at is lt k =
      position_from-zero (same_row at) those ∙ first_by_number count recs at is those 0 (kept_inputs those all_kept)
      ∙ ap (position_from (nat_eq (number_at count recs at)) 0) kept_numbers
      ∙ placed_at_rank keeps (in_inputs count recs) (number_at count recs at) lt k

  pub new_row_core : (at : RowAt) → suc at.asm ≡ length recs → new_row those at ≡ None
  new_row_core at e = position_from-zero (same_row at) those ∙ not_input count recs at e those 0 (kept_inputs those all_kept)

  -- ---- rows before a place

  lt_plus : (m j k : ℕ) → nat_lt j k ≡ nat_lt (m + j) (m + k)
  lt_plus m j k = elim (cases_lt j k) [
    | inl lt ↦ lt-ltb j k lt ∙ sym (lt-ltb (m + j) (m + k) (omega (arith, lt)))
    | inr ge ↦ le-ltb j k ge ∙ sym (le-ltb (m + j) (m + k) (omega (arith, ge)))
  ]

  before_by_number : (a k : ℕ) (rec : AsmRec) → slice_get recs a ≡ Some rec → k ≤ count rec → (b : RowAt) → IsThere count recs b
      → is_before a k b ≡ nat_lt (number_at count recs b) (rows_before count recs a + k)
  before_by_number a k rec e le b is = by_case (cases_eq b.asm a)
    where
      later : b.asm ≡ a → is_before a k b ≡ nat_lt (number_at count recs b) (rows_before count recs a + k)
      later same =
          let t : nat_lt b.asm a ≡ false = le-ltb b.asm a (omega (arith, same)) in
          let u : nat_eq b.asm a ≡ true = eq-eqb b.asm a same in
          let number : number_at count recs b ≡ rows_before count recs a + b.row = ap (λ (n : ℕ). rows_before count recs n + b.row) same in
          (λ i. t i || u i && nat_lt b.row k) ∙ lt_plus (rows_before count recs a) b.row k ∙ ap (λ (n : ℕ). nat_lt n (rows_before count recs a + k)) (sym number)

      apart : (b.asm ≡ a → ⊥) → (b.asm < a) ⊎ (a ≤ b.asm) → is_before a k b ≡ nat_lt (number_at count recs b) (rows_before count recs a + k)
      apart differ (inl lt) =
          let low = number_before count recs b a is lt in
          (λ i. lt-ltb b.asm a lt i || nat_eq b.asm a && nat_lt b.row k) ∙ sym (lt-ltb (number_at count recs b) (rows_before count recs a + k) (omega (arith, low)))
      apart differ (inr ge) =
          let t : nat_lt b.asm a ≡ false = le-ltb b.asm a ge in
          let u : nat_eq b.asm a ≡ false = ne_eqb b.asm a differ in
          let gt : a < b.asm = above differ ge in
          let high = stretch_before count recs a b.asm k rec e le gt in
          (λ i. t i || u i && nat_lt b.row k) ∙ sym (le-ltb (number_at count recs b) (rows_before count recs a + k) (omega (arith, high)))
        where
          above : (b.asm ≡ a → ⊥) → a ≤ b.asm → a < b.asm
          above differ ge = elim (cases_lt a b.asm) [ inl lt ↦ lt | inr le ↦ absurd (differ (omega (arith, le, ge))) ]

      by_case : (b.asm ≡ a) ⊎ (b.asm ≡ a → ⊥) → is_before a k b ≡ nat_lt (number_at count recs b) (rows_before count recs a + k)
      by_case (inl same) = later same
      by_case (inr differ) = apart differ (cases_lt b.asm a)

  lower_by : (bound : ℕ) (b : Bool) (x : RowAt) (xs : List RowAt) → map (number_at count recs) (cond b (x ∷ xs) xs) ≡ cond b (number_at count recs x ∷ map (number_at count recs) xs) (map (number_at count recs) xs)
  lower_by bound true x xs = refl
  lower_by bound false x xs = refl

  lower_rows : (a k : ℕ) (rec : AsmRec) → slice_get recs a ≡ Some rec → k ≤ count rec → (xs : List RowAt) → Every (IsInput count recs) xs
      → map (number_at count recs) (filter (is_before a k) xs) ≡ filter (λ n. nat_lt n (rows_before count recs a + k)) (map (number_at count recs) xs)
  lower_rows a k rec e le [] hs = refl
  lower_rows a k rec e le (x ∷ xs) hs =
      lower_by (rows_before count recs a + k) (is_before a k x) x (filter (is_before a k) xs)
      ∙ (λ i. cond (before_by_number a k rec e le x hs.0.0 i) (number_at count recs x ∷ lower_rows a k rec e le xs hs.1 i) (lower_rows a k rec e le xs hs.1 i))

  -- where a run begins or ends: after as many rows as are kept of those before it
  pub run_is : (a row : ℕ) (rec : AsmRec) → slice_get recs a ≡ Some rec → suc a < length recs → row - 1 ≤ count rec
      → run_at those a row ≡ suc (rank keeps (rows_before count recs a + (row - 1)))
  unfolding run_at
  run_is a row rec e lt le =
      let bound : rows_before count recs a + (row - 1) ≤ in_inputs count recs = stretch_before count recs a (length recs - 1) (row - 1) rec e le (omega (arith, lt)) in
      ap suc (sym (length-map (filter (is_before a (row - 1)) those) (number_at count recs))
      ∙ ap length (lower_rows a (row - 1) rec e le those (kept_inputs those all_kept))
      ∙ ap (λ (ns : List ℕ). length (filter (λ n. nat_lt n (rows_before count recs a + (row - 1))) ns)) kept_numbers
      ∙ below_is_rank keeps (in_inputs count recs) (rows_before count recs a + (row - 1)) bound)
