-- Items by their rows: the number of a row stands for that row, and for none of an earlier assembly.
use Rattle.std.proofs.Common.{◌≡◌, ◌<◌, ◌≤◌, ℕ, zero, suc, ◌+◌, ◌-◌, List, [], ◌∷◌, length, Bool, true, false, nat_lt, Some, inl, inr, refl, sym, ap, subst, ◌∙◌, arith}
use Rattle.std.specs.Prelude.{slice_get, ◌||◌, if◌then◌else◌, position}
use Rattle.std.specs.List.{Contains, list_any}
use Rattle.std.specs.Option.{is_some}
use Rattle.std.proofs.lemmas.Bool.{lt-ltb, le-ltb, ltb-true, ltb-false}
use Rattle.std.proofs.lemmas.Iterator.Adapters.{position_from-zero}
use Rattle.il_base.specs.declared.world_model.record.AsmRec.{AsmRec}
use Rattle.il_base.specs.world_model.Worlds.{rows_before}
use Rattle.rules.specs.declared.link_rules.row_at.RowAt.{RowAt}
use Rattle.rules.specs.link_rules.Types.{at_row}
use Rattle.rules.specs.link_rules.Members.{home_from}
use Rattle.base_laws.proofs.lemmas.type_laws.Places.{place_has}
use Rattle.base_laws.proofs.lemmas.walk_laws.Finds.{finds}
use Rattle.base_laws.proofs.lemmas.known_laws.Lists.{none_in, head_or}

-- ---- lists

-- a place of a list where a test passes
pub record Passing {A : Type 0} (test : A → Bool) (xs : List A) : Type 0 where
  pub place : ℕ
  pub item : A
  pub there : slice_get xs place ≡ Some item
  pub passes : test item ≡ true

passing_by : {A : Type 0} (test : A → Bool) (x : A) (xs : List A) (b : Bool) → test x ≡ b → (list_any test xs ≡ true → Passing test xs) → (b || list_any test xs) ≡ true → Passing test (x ∷ xs)
passing_by test x xs true e more h = record { place = 0; item = x; there = refl; passes = e }
passing_by test x xs false e more h = let m = more h in record { place = suc m.place; item = m.item; there = m.there; passes = m.passes }

pub passing : {A : Type 0} (test : A → Bool) (xs : List A) → list_any test xs ≡ true → Passing test xs
passing test [] h = absurd (cc)
passing test (x ∷ xs) h = passing_by test x xs (test x) refl (passing test xs) h

or_true : (b c : Bool) → c ≡ true → (b || c) ≡ true
or_true true c h = refl
or_true false c h = h

pub passes_any : {A : Type 0} (test : A → Bool) (xs : List A) (k : ℕ) (x : A) → slice_get xs k ≡ Some x → test x ≡ true → list_any test xs ≡ true
passes_any test [] k x e h = absurd (cc)
passes_any test (y ∷ xs) zero x e h = let same : y ≡ x = cc in let g : test y ≡ true = ap test same ∙ h in rw g refl
passes_any test (y ∷ xs) (suc k) x e h = or_true (test y) (list_any test xs) (passes_any test xs k x e h)

pub to_place : {A : Type 0} (xs : List A) (x : A) → Contains xs x → (k : ℕ) × (slice_get xs k ≡ Some x)
to_place [] x c = absurd (none_in x c)
to_place (y ∷ xs) x c = elim (head_or y xs x c) [ inl e ↦ (0, ap Some e) | inr t ↦ (let r = to_place xs x t in (suc r.0, r.1)) ]

pub position_some : {A : Type 0} (test : A → Bool) (xs : List A) (x : A) → Contains xs x → test x ≡ true → is_some (position test xs) ≡ true
position_some test xs x c h =
    let p = to_place xs x c in
    let f = finds test 0 xs p.0 x p.1 h in
    ap is_some (position_from-zero test xs ∙ f.1)

-- ---- homes

module _ (count : AsmRec → ℕ) where
  number_home : (recs : List AsmRec) (i a k : ℕ) (rec : AsmRec) → slice_get recs a ≡ Some rec → k < count rec → home_from count i recs (rows_before count recs a + k) ≡ Some (at_row (i + a) k)
  unfolding home_from rows_before
  number_home [] i a k rec e lt = absurd (cc)
  number_home (r ∷ recs) i zero k rec e lt =
      let same : r ≡ rec = cc in
      let n : 0 + k ≡ k = omega arith in
      let z : i + 0 ≡ i = omega arith in
      let t : nat_lt k (count r) ≡ true = lt-ltb k (count r) (rw same lt) in
      rw (n, t, z) refl
  number_home (r ∷ recs) i (suc a) k rec e lt =
      let m = rows_before count recs a in
      let t : nat_lt (count r + m + k) (count r) ≡ false = le-ltb (count r + m + k) (count r) (omega arith) in
      let n : count r + m + k - count r ≡ m + k = omega arith in
      let z : i + suc a ≡ suc i + a = omega arith in
      rw (t, n, z) (number_home recs (suc i) a k rec e lt)

  pub own_home : (recs : List AsmRec) (at : RowAt) (rec : AsmRec) → slice_get recs at.asm ≡ Some rec → at.row < count rec → home_from count 0 recs (rows_before count recs at.asm + at.row) ≡ Some at
  own_home recs at rec e lt = let z : 0 + at.asm ≡ at.asm = omega arith in number_home recs 0 at.asm at.row rec e lt ∙ ap (λ (a : ℕ). Some (at_row a at.row)) z

  -- no number stands for an assembly before the first
  begins_by : (r : AsmRec) (recs : List AsmRec) (i n : ℕ) (at : RowAt) (b : Bool) → (home_from count (suc i) recs (n - count r) ≡ Some at → suc i ≤ at.asm)
      → (if b then Some (at_row i n) else home_from count (suc i) recs (n - count r)) ≡ Some at → i ≤ at.asm
  begins_by r recs i n at true more e = let same : at_row i n ≡ at = cc in let a : i ≡ at.asm = ap (λ (x : RowAt). x.asm) same in omega arith
  begins_by r recs i n at false more e = let le = more e in omega arith

  begins : (recs : List AsmRec) (i n : ℕ) (at : RowAt) → home_from count i recs n ≡ Some at → i ≤ at.asm
  unfolding home_from
  begins [] i n at e = absurd (cc)
  begins (r ∷ recs) i n at e = begins_by r recs i n at (nat_lt n (count r)) (begins recs (suc i) (n - count r) at) e

  -- nor for one before the row's own
  pub not_before : (recs : List AsmRec) (i a k : ℕ) (at : RowAt) → home_from count i recs (rows_before count recs a + k) ≡ Some at → i + a ≤ at.asm
  unfolding home_from rows_before
  not_before [] i a k at e = absurd (cc)
  not_before (r ∷ recs) i zero k at e =
      let le = begins (r ∷ recs) i (0 + k) at e in omega arith
  not_before (r ∷ recs) i (suc a) k at e =
      let m = rows_before count recs a in
      let t : nat_lt (count r + m + k) (count r) ≡ false = le-ltb (count r + m + k) (count r) (omega arith) in
      let n : count r + m + k - count r ≡ m + k = omega arith in
      let f : home_from count (suc i) recs (m + k) ≡ Some at = next t n e in
      let le = not_before recs (suc i) a k at f in
      omega arith
    where
      next : nat_lt (count r + rows_before count recs a + k) (count r) ≡ false → count r + rows_before count recs a + k - count r ≡ rows_before count recs a + k
          → (if nat_lt (count r + rows_before count recs a + k) (count r) then Some (at_row i (count r + rows_before count recs a + k)) else home_from count (suc i) recs (count r + rows_before count recs a + k - count r)) ≡ Some at
          → home_from count (suc i) recs (rows_before count recs a + k) ≡ Some at
      next t n e =
          ap (home_from count (suc i) recs) (sym n)
          ∙ ap (λ (b : Bool). if b then Some (at_row i (count r + rows_before count recs a + k)) else home_from count (suc i) recs (count r + rows_before count recs a + k - count r)) (sym t)
          ∙ e

  -- what is so of a row of an input is so of the row that its number stands for
  pub record Placed (has : AsmRec → ℕ → Bool) (recs : List AsmRec) (n : ℕ) : Type 0 where
    pub is : (at : RowAt) (rec : AsmRec) → home_from count 0 recs n ≡ Some at → suc at.asm < length recs → slice_get recs at.asm ≡ Some rec → has rec at.row ≡ true

  pub placed : (has : AsmRec → ℕ → Bool) (recs : List AsmRec) (x : RowAt)
      → ((rec : AsmRec) → slice_get recs x.asm ≡ Some rec → suc x.asm < length recs → (x.row < count rec) × (has rec x.row ≡ true)) → Placed has recs (rows_before count recs x.asm + x.row)
  placed has recs x right = record { is = λ at rec home lt there. by_test at rec home lt there (nat_lt (suc x.asm) (length recs)) refl }
    where
      here : (at : RowAt) (rec : AsmRec) → home_from count 0 recs (rows_before count recs x.asm + x.row) ≡ Some at → slice_get recs at.asm ≡ Some rec → suc x.asm < length recs → (found : AsmRec) → slice_get recs x.asm ≡ Some found
          → has rec at.row ≡ true
      here at rec home there lt found is =
          let r = right found is lt in
          let own = own_home recs x found is r.0 in
          let same : x ≡ at = cc in
          let a : slice_get recs x.asm ≡ Some rec = ap (λ (y : RowAt). slice_get recs y.asm) same ∙ there in
          let one : found ≡ rec = cc in
          subst (λ (y : RowAt). has rec y.row ≡ true) same (subst (λ (z : AsmRec). has z x.row ≡ true) one r.1)

      by_test : (at : RowAt) (rec : AsmRec) → home_from count 0 recs (rows_before count recs x.asm + x.row) ≡ Some at → suc at.asm < length recs → slice_get recs at.asm ≡ Some rec → (b : Bool) → nat_lt (suc x.asm) (length recs) ≡ b
          → has rec at.row ≡ true
      by_test at rec home lt there true t =
          let l : suc x.asm < length recs = ltb-true (suc x.asm) (length recs) t in
          let p = place_has recs x.asm (omega arith) in
          here at rec home there l p.0 p.1
      by_test at rec home lt there false t =
          let ge : length recs ≤ suc x.asm = ltb-false (suc x.asm) (length recs) t in
          let le = not_before recs 0 x.asm x.row at home in
          absurd (omega arith)
