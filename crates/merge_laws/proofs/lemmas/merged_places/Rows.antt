-- Rows of a kind by their numbers, whatever counts them: where each stands.
use Rattle.std.proofs.Common.{◌≡◌, ◌<◌, ◌≤◌, ℕ, zero, suc, ◌+◌, ◌-◌, Bool, true, false, nat_eq, nat_lt, List, [], ◌∷◌, ◌++◌, length, Option, Some, None, refl, sym, ap, subst, ◌∙◌, arith, length-append}
use Rattle.std.specs.Prelude.{if◌then◌else◌, slice_get, unwrap_or}
use Rattle.std.proofs.lemmas.Bool.{lt-ltb, le-ltb, ltb-true, ltb-false, and_parts, and_from, eqb-true, eq-eqb}
use Rattle.il_base.specs.declared.world_model.record.AsmRec.{AsmRec}
use Rattle.il_base.specs.world_model.Worlds.{rows_before}
use Rattle.rules.specs.declared.link_rules.row_at.RowAt.{RowAt}
use Rattle.rules.specs.link_rules.Types.{at_row}
use Rattle.rules.specs.link_rules.Cycles.{same_row}
use Rattle.rules.specs.link_rules.Members.{home_from}
use Rattle.rules.specs.merged_world_rules.Numbering.{in_inputs, in_all, number_at, place_numbered}

pub same_some : {A : Type 0} (x y : A) → Some x ≡ Some y → x ≡ y
same_some x y e = cc

-- ---- one row or two

pub row_itself : (x : RowAt) → same_row x x ≡ true
row_itself x = and_from (nat_eq x.asm x.asm) (nat_eq x.row x.row) (eq-eqb x.asm x.asm refl) (eq-eqb x.row x.row refl)

pub rows_one : (x y : RowAt) → same_row x y ≡ true → x ≡ y
rows_one x y h =
    let p = and_parts (nat_eq x.asm y.asm) (nat_eq x.row y.row) h in
    λ i. at_row (eqb-true x.asm y.asm p.0 i) (eqb-true x.row y.row p.1 i)

-- ---- look-ups in lists

pub place_within : {A : Type 0} (xs : List A) (k : ℕ) (x : A) → slice_get xs k ≡ Some x → k < length xs
place_within [] k x e = cc
place_within (y ∷ xs) zero x e = omega arith
place_within (y ∷ xs) (suc k) x e = let lt = place_within xs k x e in omega arith

pub place_has : {A : Type 0} (xs : List A) (k : ℕ) → k < length xs → (x : A) × (slice_get xs k ≡ Some x)
place_has [] k lt = absurd (omega arith)
place_has (x ∷ xs) zero lt = (x, refl)
place_has (x ∷ xs) (suc k) lt = place_has xs k (omega arith)

pub place_past : {A : Type 0} (xs : List A) (k : ℕ) → length xs ≤ k → slice_get xs k ≡ None
place_past [] k le = refl
place_past (x ∷ xs) zero le = absurd (omega arith)
place_past (x ∷ xs) (suc k) le = place_past xs k (omega arith)

pub get_front : {A : Type 0} (xs ys : List A) (k : ℕ) → k < length xs → slice_get (xs ++ ys) k ≡ slice_get xs k
get_front [] ys k h = absurd (omega arith)
get_front (x ∷ xs) ys zero h = refl
get_front (x ∷ xs) ys (suc k) h = get_front xs ys k (omega arith)

pub get_behind : {A : Type 0} (xs ys : List A) (k : ℕ) → slice_get (xs ++ ys) (length xs + k) ≡ slice_get ys k
get_behind [] ys k = ap (slice_get ys) (omega arith)
get_behind (x ∷ xs) ys k = let e : length (x ∷ xs) + k ≡ suc (length xs + k) = omega arith in rw e (get_behind xs ys k)

-- ---- rows of a kind

module _ (count : AsmRec → ℕ) where
  -- a row of these assemblies
  pub record IsThere (recs : List AsmRec) (at : RowAt) : Type 0 where
    pub rec : AsmRec
    pub here : slice_get recs at.asm ≡ Some rec
    pub below : at.row < count rec

  home_at : (recs : List AsmRec) (i a k : ℕ) (rec : AsmRec) → slice_get recs a ≡ Some rec → k < count rec
      → home_from count i recs (rows_before count recs a + k) ≡ Some (at_row (i + a) k)
  unfolding home_from rows_before
  home_at [] i a k rec e lt = cc
  home_at (r ∷ recs) i zero k rec e lt =
      let same : r ≡ rec = cc in
      let n : 0 + k ≡ k = omega arith in
      let z : i + 0 ≡ i = omega arith in
      let t : nat_lt k (count r) ≡ true = lt-ltb k (count r) (rw same lt) in
      rw (n, t, z) refl
  home_at (r ∷ recs) i (suc a) k rec e lt =
      let m = rows_before count recs a in
      let t : nat_lt (count r + m + k) (count r) ≡ false = le-ltb (count r + m + k) (count r) (omega arith) in
      let n : count r + m + k - count r ≡ m + k = omega arith in
      let z : i + suc a ≡ suc i + a = omega arith in
      rw (t, n, z) (home_at recs (suc i) a k rec e lt)

  pub there_home : (recs : List AsmRec) (at : RowAt) → IsThere recs at → home_from count 0 recs (number_at count recs at) ≡ Some at
  there_home recs at is =
      let z : 0 + at.asm ≡ at.asm = omega arith in
      home_at recs 0 at.asm at.row is.rec is.here is.below ∙ ap (λ (a : ℕ). Some (at_row a at.row)) z

  -- a row of these assemblies, of which the first has the number i
  record Stands (recs : List AsmRec) (i n : ℕ) (at : RowAt) : Type 0 where
    asm : ℕ
    rec : AsmRec
    numbered : at.asm ≡ i + asm
    there : slice_get recs asm ≡ Some rec
    below : at.row < count rec
    id : n ≡ rows_before count recs asm + at.row

  stands_by : (rec : AsmRec) (recs : List AsmRec) (i n : ℕ) (at : RowAt) (b : Bool) → nat_lt n (count rec) ≡ b
      → (home_from count (suc i) recs (n - count rec) ≡ Some at → Stands recs (suc i) (n - count rec) at)
      → (if b then Some (at_row i n) else home_from count (suc i) recs (n - count rec)) ≡ Some at → Stands (rec ∷ recs) i n at
  unfolding rows_before
  stands_by rec recs i n at true e h f =
      let same : at_row i n ≡ at = cc in
      let lt = ltb-true n (count rec) e in
      subst (λ (x : RowAt). Stands (rec ∷ recs) i n x) same (record { asm = 0; rec = rec; numbered = omega arith; there = refl; below = lt; id = omega arith })
  stands_by rec recs i n at false e h f =
      let s = h f in
      let le = ltb-false n (count rec) e in
      record { asm = suc s.asm; rec = s.rec; numbered = omega (arith, s.numbered); there = s.there; below = s.below; id = omega (arith, s.id, le) }

  stands : (recs : List AsmRec) (i n : ℕ) (at : RowAt) → home_from count i recs n ≡ Some at → Stands recs i n at
  unfolding home_from
  stands [] i n at e = cc
  stands (rec ∷ recs) i n at e = stands_by rec recs i n at (nat_lt n (count rec)) refl (stands recs (suc i) (n - count rec) at) e

  pub home_there : (recs : List AsmRec) (n : ℕ) (at : RowAt) → home_from count 0 recs n ≡ Some at → IsThere recs at
  home_there recs n at e =
      let s = stands recs 0 n at e in
      let same : s.asm ≡ at.asm = omega (arith, s.numbered) in
      record { rec = s.rec; here = subst (λ (a : ℕ). slice_get recs a ≡ Some s.rec) same s.there; below = s.below }

  pub home_number : (recs : List AsmRec) (n : ℕ) (at : RowAt) → home_from count 0 recs n ≡ Some at → number_at count recs at ≡ n
  home_number recs n at e =
      let s = stands recs 0 n at e in
      let same : at.asm ≡ s.asm = omega (arith, s.numbered) in
      ap (λ (a : ℕ). rows_before count recs a + at.row) same ∙ sym s.id

  -- ---- numbers of earlier and later assemblies

  before_next : (recs : List AsmRec) (a b k : ℕ) (rec : AsmRec) → slice_get recs a ≡ Some rec → k ≤ count rec → a < b → rows_before count recs a + k ≤ rows_before count recs b
  unfolding rows_before
  before_next [] a b k rec e le lt = cc
  before_next (r ∷ recs) a zero k rec e le lt = absurd (omega arith)
  before_next (r ∷ recs) zero (suc b) k rec e le lt = let same : r ≡ rec = cc in let l : k ≤ count r = rw same le in omega arith
  before_next (r ∷ recs) (suc a) (suc b) k rec e le lt = let l = before_next recs a b k rec e le (omega arith) in omega arith

  -- a row that ends before another assembly
  pub number_before : (recs : List AsmRec) (at : RowAt) (b : ℕ) → IsThere recs at → at.asm < b → number_at count recs at < rows_before count recs b
  number_before recs at b is lt =
      let l = before_next recs at.asm b (suc at.row) is.rec is.here (let h = is.below in omega arith) lt in
      omega arith

  -- all rows up to one that an assembly can have
  pub stretch_before : (recs : List AsmRec) (a b k : ℕ) (rec : AsmRec) → slice_get recs a ≡ Some rec → k ≤ count rec → a < b → rows_before count recs a + k ≤ rows_before count recs b
  stretch_before recs a b k rec e le lt = before_next recs a b k rec e le lt

  pub number_below : (recs : List AsmRec) (at : RowAt) → IsThere recs at → number_at count recs at < in_all count recs
  number_below recs at is = number_before recs at (length recs) is (place_within recs at.asm is.rec is.here)

  pub home_below : (recs : List AsmRec) (n : ℕ) (at : RowAt) → home_from count 0 recs n ≡ Some at → n < in_all count recs
  home_below recs n at e =
      let lt = number_below recs at (home_there recs n at e) in
      subst (λ (k : ℕ). k < in_all count recs) (home_number recs n at e) lt

  -- ---- each number below the bound has a row, and no other

  some_by : (rec : AsmRec) (recs : List AsmRec) (i n : ℕ) (b : Bool) → nat_lt n (count rec) ≡ b → n < count rec + rows_before count recs (length recs)
      → (n - count rec < rows_before count recs (length recs) → (at : RowAt) × (home_from count (suc i) recs (n - count rec) ≡ Some at))
      → (at : RowAt) × ((if b then Some (at_row i n) else home_from count (suc i) recs (n - count rec)) ≡ Some at)
  some_by rec recs i n true e lt more = (at_row i n, refl)
  some_by rec recs i n false e lt more = let le = ltb-false n (count rec) e in more (omega (arith, le))

  home_some : (recs : List AsmRec) (i n : ℕ) → n < rows_before count recs (length recs) → (at : RowAt) × (home_from count i recs n ≡ Some at)
  unfolding home_from rows_before
  home_some [] i n lt = absurd (omega arith)
  home_some (rec ∷ recs) i n lt = some_by rec recs i n (nat_lt n (count rec)) refl lt (λ l. home_some recs (suc i) (n - count rec) l)

  pub has_home : (recs : List AsmRec) (n : ℕ) → n < in_all count recs → (at : RowAt) × (home_from count 0 recs n ≡ Some at)
  has_home recs n lt = home_some recs 0 n lt

  none_by : (recs : List AsmRec) (n : ℕ) (o : Option RowAt) → home_from count 0 recs n ≡ o → in_all count recs ≤ n → o ≡ None
  none_by recs n None e le = refl
  none_by recs n (Some at) e le = let lt = home_below recs n at e in absurd (omega (arith, lt))

  pub no_home : (recs : List AsmRec) (n : ℕ) → in_all count recs ≤ n → home_from count 0 recs n ≡ None
  no_home recs n le = none_by recs n (home_from count 0 recs n) refl le

  pub none_past : (recs : List AsmRec) (n : ℕ) → home_from count 0 recs n ≡ None → in_all count recs ≤ n
  none_past recs n e = by_test (nat_lt n (in_all count recs)) refl
    where
      by_test : (b : Bool) → nat_lt n (in_all count recs) ≡ b → in_all count recs ≤ n
      by_test false t = ltb-false n (in_all count recs) t
      by_test true t =
          let h = has_home recs n (ltb-true n (in_all count recs) t) in
          let bad : Some h.0 ≡ None = sym h.1 ∙ e in absurd (cc)

  -- ---- rows by numbers

  pub one_by_number : (recs : List AsmRec) (x y : RowAt) → IsThere recs x → IsThere recs y → number_at count recs x ≡ number_at count recs y → x ≡ y
  one_by_number recs x y p q e = same_some x y (sym (there_home recs x p) ∙ ap (home_from count 0 recs) e ∙ there_home recs y q)

  at_first : (recs : List AsmRec) (n : ℕ) → rows_before count recs 0 + n ≡ n
  unfolding rows_before
  at_first recs n = omega arith

  pub place_number : (recs : List AsmRec) (n : ℕ) → number_at count recs (place_numbered count recs n) ≡ n
  place_number recs n = by_home (home_from count 0 recs n) refl
    where
      by_home : (o : Option RowAt) → home_from count 0 recs n ≡ o → number_at count recs (unwrap_or o (at_row 0 n)) ≡ n
      by_home None e = at_first recs n
      by_home (Some at) e = home_number recs n at e

  -- ---- inputs and the core library after them

  last : (xs : List AsmRec) (c : AsmRec) → rows_before count (xs ++ c ∷ []) (suc (length xs)) ≡ rows_before count (xs ++ c ∷ []) (length xs) + count c
  unfolding rows_before
  last [] c = omega arith
  last (x ∷ xs) c = let more = last xs c in omega (arith, more)

  pub all_is : (xs : List AsmRec) (c : AsmRec) → in_all count (xs ++ c ∷ []) ≡ in_inputs count (xs ++ c ∷ []) + count c
  all_is xs c =
      let long : length (xs ++ c ∷ []) ≡ length xs + 1 = length-append xs (c ∷ []) in
      let one : length (xs ++ c ∷ []) ≡ suc (length xs) = omega (arith, long) in
      let less : length (xs ++ c ∷ []) - 1 ≡ length xs = omega (arith, long) in
      ap (rows_before count (xs ++ c ∷ [])) one ∙ last xs c ∙ ap (λ (k : ℕ). rows_before count (xs ++ c ∷ []) k + count c) (sym less)

  pub input_below : (recs : List AsmRec) (at : RowAt) → IsThere recs at → suc at.asm < length recs → number_at count recs at < in_inputs count recs
  input_below recs at is lt = number_before recs at (length recs - 1) is (omega arith)

  pub core_number : (recs : List AsmRec) (at : RowAt) → suc at.asm ≡ length recs → number_at count recs at ≡ in_inputs count recs + at.row
  core_number recs at e = let a : at.asm ≡ length recs - 1 = omega (arith, e) in ap (λ (k : ℕ). rows_before count recs k + at.row) a
