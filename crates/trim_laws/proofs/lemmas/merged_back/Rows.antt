-- Kept rows by their places among the kept ones, and rows in runs (II.22.37).
use Rattle.std.proofs.Common.{◌≡◌, ◌<◌, ◌≤◌, ℕ, zero, suc, ◌+◌, ◌-◌, Bool, true, false, nat_le, nat_lt, List, [], ◌∷◌, length, map, Some, inl, inr, refl, sym, ap, subst, ◌∙◌, arith}
use Rattle.std.specs.Prelude.{slice_get, take, drop}
use Rattle.std.specs.List.{position_from, range_with_len}
use Rattle.std.proofs.lemmas.Bool.{lt-ltb, le-ltb, le-leb, leb-true, ltb-true, cases_lt, and_parts, and_from, and_right}
use Rattle.std.proofs.lemmas.List.{length-drop}
use Rattle.il_base.specs.declared.ids.Item.{Item}
use Rattle.il_base.specs.declared.world_model.record.AsmRec.{AsmRec}
use Rattle.il_base.specs.world_model.Records.{AreRuns}
use Rattle.rules.specs.declared.link_rules.row_at.RowAt.{RowAt}
use Rattle.rules.specs.link_rules.Members.{run_of, is_in_run}
use Rattle.rules.specs.link_rules.Faults.{numbered}
use Rattle.rules.specs.type_rules.Rows.{run_places}
use Rattle.base_laws.proofs.lemmas.type_laws.Within.{In}
use Rattle.rules.specs.merge_rules.Numbers.{Kept}
use Rattle.rules.specs.merged_world_rules.Numbering.{in_inputs, number_at}
use Rattle.merge_laws.proofs.lemmas.merged_places.Ranks.{rank, rank_rises}
use Rattle.merge_laws.proofs.lemmas.merged_places.Rows.{IsThere, place_has}
use Rattle.merge_laws.proofs.lemmas.merged_places.Kept.{keeps, those, kept_numbers, kept_at}
use Rattle.merge_laws.proofs.lemmas.merged_rows_move.Owners.{at_place, place_is_rank}

-- ---- a kept row by its place

mapped_at : {A B : Type 0} (f : A → B) (xs : List A) (i : ℕ) (x : A) → slice_get xs i ≡ Some x → slice_get (map f xs) i ≡ Some (f x)
mapped_at f [] i x e = absurd (cc)
mapped_at f (y ∷ xs) zero x e = let same : y ≡ x = cc in ap (λ z. Some (f z)) same
mapped_at f (y ∷ xs) (suc i) x e = mapped_at f xs i x e

module _ (count : AsmRec → ℕ) (recs : List AsmRec) (number_item : ℕ → Item) (kept : Kept) where
  pub record KeptRow (j : ℕ) : Type 0 where
    pub at : RowAt
    pub there : IsThere count recs at
    pub earlier : suc at.asm < length recs
    pub keeps_it : kept (number_item (number_at count recs at)) ≡ true
    pub rank_is : rank (keeps count recs number_item kept) (number_at count recs at) ≡ j
    pub listed : slice_get (those count recs number_item kept) j ≡ Some at

  pub kept_row : (j : ℕ) → j < length (those count recs number_item kept) → KeptRow j
  kept_row j lt =
      let x = place_has (those count recs number_item kept) j lt in
      let k = kept_at count recs number_item kept j x.0 x.1 in
      let numbered_at = mapped_at (number_at count recs) (those count recs number_item kept) j x.0 x.1 in
      record {
        at = x.0;
        there = k.0.0;
        earlier = k.0.1;
        keeps_it = k.1;
        rank_is = place_is_rank (keeps count recs number_item kept) (in_inputs count recs) j (number_at count recs x.0) (ap (λ (ns : List ℕ). slice_get ns j) (sym (kept_numbers count recs number_item kept)) ∙ numbered_at);
        listed = x.1;
      }

  -- a lower place is of a lower number
  pub lower : (p : ℕ → Bool) (x y j k : ℕ) → rank p x ≡ j → rank p y ≡ k → j < k → x < y
  lower p x y j k e f lt = elim (cases_lt x y) [ inl low ↦ low | inr high ↦ (let up = rank_rises p y x high in absurd (omega (arith, up, e, f, lt))) ]

-- ---- the rows of a run

in_range : (s n d : ℕ) → d < n → In (s + d) (range_with_len s n)
in_range s zero d lt = absurd (omega arith)
in_range s (suc n) zero lt = inl (omega arith)
in_range s (suc n) (suc d) lt = let z : s + suc d ≡ s + 1 + d = omega arith in inr (subst (λ (k : ℕ). In k (range_with_len (s + 1) n)) (sym z) (in_range (s + 1) n d (omega (arith, lt))))

range_in : (s n k : ℕ) → In k (range_with_len s n) → (s ≤ k) × (k < s + n)
range_in s zero k h = absurd h
range_in s (suc n) k (inl e) = (omega (arith, e), omega (arith, e))
range_in s (suc n) k (inr h) = let r = range_in (s + 1) n k h in let a = r.0 in let b = r.1 in (omega (arith, a), omega (arith, b))

long_take : {A : Type 0} (n : ℕ) (xs : List A) (d : ℕ) → d < n → d < length xs → d < length (take n xs)
long_take zero xs d lt le = absurd (omega (arith, lt))
long_take (suc n) [] d lt le = absurd (omega (arith, le))
long_take (suc n) (x ∷ xs) zero lt le = omega arith
long_take (suc n) (x ∷ xs) (suc d) lt le = let more = long_take n xs d (omega (arith, lt)) (omega (arith, le)) in omega (arith, more)

short_take : {A : Type 0} (n : ℕ) (xs : List A) → (length (take n xs) ≤ n) × (length (take n xs) ≤ length xs)
short_take zero xs = (omega arith, omega arith)
short_take (suc n) [] = (omega arith, omega arith)
short_take (suc n) (x ∷ xs) = let s = short_take n xs in let a = s.0 in let b = s.1 in (omega (arith, a), omega (arith, b))

pub run_by : {R : Type 0} (first end k : ℕ) (rows : List R) → first ≤ suc k → suc k < end → k < length rows → In k (run_places first end rows)
run_by first end k rows from to low =
    let rest : length (drop (first - 1) rows) ≡ length rows - (first - 1) = length-drop (first - 1) rows in
    let d : k - (first - 1) < length (run_of first end rows) = long_take (end - first) (drop (first - 1) rows) (k - (first - 1)) (less first from) (omega (arith, rest, from, low)) in
    let z : first - 1 + (k - (first - 1)) ≡ k = omega (arith, from) in
    subst (λ (n : ℕ). In n (run_places first end rows)) z (in_range (first - 1) (length (run_of first end rows)) (k - (first - 1)) d)
  where
    less : (f : ℕ) → f ≤ suc k → k - (f - 1) < end - f
    less zero le = omega (arith, to)
    less (suc f) le = omega (arith, to, le)

-- a row that is in a run, by the test
pub in_run : {R : Type 0} (first end k : ℕ) (rows : List R) → is_in_run first end (suc k) ≡ true → k < length rows → In k (run_places first end rows)
in_run first end k rows h low =
    let p = and_parts (nat_le first (suc k)) (nat_lt (suc k) end) h in
    run_by first end k rows (leb-true first (suc k) p.0) (ltb-true (suc k) end p.1) low

pub of_run : {R : Type 0} (first end k : ℕ) (rows : List R) → 1 ≤ first → In k (run_places first end rows) → (is_in_run first end (suc k) ≡ true) × (k < length rows)
of_run first end k rows some h =
    let r = range_in (first - 1) (length (run_of first end rows)) k h in
    let low = r.0 in
    let high = r.1 in
    let rest : length (drop (first - 1) rows) ≡ length rows - (first - 1) = length-drop (first - 1) rows in
    let s = short_take (end - first) (drop (first - 1) rows) in
    let a = s.0 in
    let b = s.1 in
    (and_from (nat_le first (suc k)) (nat_lt (suc k) end) (le-leb first (suc k) (omega (arith, low, some))) (lt-ltb (suc k) end (omega (arith, low, high, a, some))), omega (arith, low, high, b, rest))

-- ---- the items of a run

record At {A : Type 0} (xs : List A) (x : A) : Type 0 where
  place : ℕ
  is : slice_get xs place ≡ Some x

at_in : {A : Type 0} (xs : List A) (x : A) → In x xs → At xs x
at_in [] x h = absurd h
at_in (y ∷ xs) x (inl e) = record { place = 0; is = ap (λ z. Some z) (sym e) }
at_in (y ∷ xs) x (inr h) = let a = at_in xs x h in record { place = suc a.place; is = a.is }

in_at : {A : Type 0} (xs : List A) (k : ℕ) (x : A) → slice_get xs k ≡ Some x → In x xs
in_at [] k x e = absurd (cc)
in_at (y ∷ xs) zero x e = let same : y ≡ x = cc in inl (sym same)
in_at (y ∷ xs) (suc k) x e = inr (in_at xs k x e)

took : {A : Type 0} (n : ℕ) (xs : List A) (d : ℕ) (x : A) → slice_get (take n xs) d ≡ Some x → (d < n) × (slice_get xs d ≡ Some x)
took zero xs d x e = absurd (cc)
took (suc n) [] d x e = absurd (cc)
took (suc n) (y ∷ xs) zero x e = (omega arith, e)
took (suc n) (y ∷ xs) (suc d) x e = let t = took n xs d x e in let lt = t.0 in (omega (arith, lt), t.1)

takes : {A : Type 0} (n : ℕ) (xs : List A) (d : ℕ) (x : A) → d < n → slice_get xs d ≡ Some x → slice_get (take n xs) d ≡ Some x
takes zero xs d x lt e = absurd (omega (arith, lt))
takes (suc n) [] d x lt e = absurd (cc)
takes (suc n) (y ∷ xs) zero x lt e = e
takes (suc n) (y ∷ xs) (suc d) x lt e = takes n xs d x (omega (arith, lt)) e

dropped : {A : Type 0} (n : ℕ) (xs : List A) (d : ℕ) → slice_get (drop n xs) d ≡ slice_get xs (n + d)
dropped zero xs d = ap (slice_get xs) (omega arith)
dropped (suc n) [] d = refl
dropped (suc n) (y ∷ xs) d = let z : suc n + d ≡ suc (n + d) = omega arith in dropped n xs d ∙ sym (ap (slice_get (y ∷ xs)) z)

pub record InRun {R : Type 0} (first end : ℕ) (rows : List R) (x : R) : Type 0 where
  pub place : ℕ
  pub is : slice_get rows place ≡ Some x
  pub inside : is_in_run first end (suc place) ≡ true

pub run_item : {R : Type 0} (first end : ℕ) (rows : List R) (x : R) → 1 ≤ first → In x (run_of first end rows) → InRun first end rows x
run_item first end rows x some h =
    let a = at_in (run_of first end rows) x h in
    let t = took (end - first) (drop (first - 1) rows) a.place x a.is in
    let lt = t.0 in
    let p : ℕ = a.place in
    record {
      place = first - 1 + p;
      is = sym (dropped (first - 1) rows p) ∙ t.1;
      inside = and_from (nat_le first (suc (first - 1 + p))) (nat_lt (suc (first - 1 + p)) end) (le-leb first (suc (first - 1 + p)) (omega (arith, some))) (lt-ltb (suc (first - 1 + p)) end (omega (arith, some, lt)));
    }

pub item_run : {R : Type 0} (first end k : ℕ) (rows : List R) (x : R) → 1 ≤ first → slice_get rows k ≡ Some x → is_in_run first end (suc k) ≡ true → In x (run_of first end rows)
item_run first end k rows x some e h =
    let p = and_parts (nat_le first (suc k)) (nat_lt (suc k) end) h in
    let from = leb-true first (suc k) p.0 in
    let to = ltb-true (suc k) end p.1 in
    let z : first - 1 + (k - (first - 1)) ≡ k = omega (arith, from) in
    in_at (run_of first end rows) (k - (first - 1)) x
    (takes (end - first) (drop (first - 1) rows) (k - (first - 1)) x (omega (arith, from, to, some)) (dropped (first - 1) rows (k - (first - 1)) ∙ ap (slice_get rows) z ∙ e))

-- ---- a row is in one run alone

module _ {A : Type 0} (count : ℕ) (first end : A → ℕ) (rows : List A) (runs : AreRuns count first end rows) where
  ends_before : (d j : ℕ) (x y : A) → slice_get rows j ≡ Some x → slice_get rows (suc j + d) ≡ Some y → end x ≤ first y
  ends_before zero j x y e f =
      let z : suc j + 0 ≡ suc j = omega arith in
      let same : end x ≡ first y = runs.meets j x y e (ap (slice_get rows) (sym z) ∙ f) in
      omega (arith, same)
  ends_before (suc d) j x y e f =
      let z : suc j + suc d ≡ suc (suc j + d) = omega arith in
      let g : slice_get rows (suc (suc j + d)) ≡ Some y = ap (slice_get rows) (sym z) ∙ f in
      let w = earlier rows (suc j + d) y g in
      let before_it = ends_before d j x w.0 e w.1 in
      let rises = runs.never_falls (suc j + d) w.0 w.1 in
      let meets : end w.0 ≡ first y = runs.meets (suc j + d) w.0 y w.1 g in
      omega (arith, before_it, rises, meets)
    where
      earlier : (xs : List A) (k : ℕ) (y : A) → slice_get xs (suc k) ≡ Some y → (w : A) × (slice_get xs k ≡ Some w)
      earlier [] k y e = absurd (cc)
      earlier (x ∷ xs) zero y e = (x, refl)
      earlier (x ∷ xs) (suc k) y e = earlier xs k y e

  pub one_run : (k p : ℕ) (y : A) → slice_get rows p ≡ Some y → is_in_run (first y) (end y) (suc k) ≡ true → position_from (λ (t : A). is_in_run (first t) (end t) (suc k)) 0 rows ≡ Some p
  one_run k p y e h =
      let z : 0 + p ≡ p = omega arith in
      at_place (λ (t : A). is_in_run (first t) (end t) (suc k)) rows 0 p y e h (λ j x lt f. none_earlier j x lt f) ∙ ap (λ (n : ℕ). Some n) z
    where
      none_earlier : (j : ℕ) (x : A) → j < p → slice_get rows j ≡ Some x → is_in_run (first x) (end x) (suc k) ≡ false
      none_earlier j x lt f =
          let q = and_parts (nat_le (first y) (suc k)) (nat_lt (suc k) (end y)) h in
          let from = leb-true (first y) (suc k) q.0 in
          let place : suc j + (p - suc j) ≡ p = omega (arith, lt) in
          let ends = ends_before (p - suc j) j x y f (ap (slice_get rows) place ∙ e) in
          and_right (nat_le (first x) (suc k)) (nat_lt (suc k) (end x)) (le-ltb (suc k) (end x) (omega (arith, ends, from)))

-- ---- items with their numbers

module _ {A B : Type 0} (f : ℕ → A → B) where
  pub numbered_at : (i : ℕ) (xs : List A) (k : ℕ) (x : A) → slice_get xs k ≡ Some x → slice_get (numbered f i xs) k ≡ Some (f (i + k) x)
  numbered_at i [] k x e = absurd (cc)
  numbered_at i (y ∷ xs) zero x e = let same : y ≡ x = cc in let z : i ≡ i + 0 = omega arith in λ j. Some (f (z j) (same j))
  numbered_at i (y ∷ xs) (suc k) x e = let z : suc i + k ≡ i + suc k = omega arith in numbered_at (suc i) xs k x e ∙ ap (λ (n : ℕ). Some (f n x)) z

  pub numbered_from : (i : ℕ) (xs : List A) (k : ℕ) (y : B) → slice_get (numbered f i xs) k ≡ Some y → (x : A) × (slice_get xs k ≡ Some x) × (f (i + k) x ≡ y)
  numbered_from i [] k y e = absurd (cc)
  numbered_from i (x ∷ xs) zero y e = let z : i + 0 ≡ i = omega arith in let same : f i x ≡ y = cc in (x, refl, ap (λ (n : ℕ). f n x) z ∙ same)
  numbered_from i (x ∷ xs) (suc k) y e = let z : i + suc k ≡ suc i + k = omega arith in let r = numbered_from (suc i) xs k y e in (r.0, r.1, ap (λ (n : ℕ). f n r.0) z ∙ r.2)
