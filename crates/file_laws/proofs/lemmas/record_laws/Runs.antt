-- Runs that have a spelling, and those that have none.
use Rattle.std.proofs.Common.{◌≡◌, ℕ, zero, suc, ◌+◌, ◌^◌, ◌<◌, ◌≤◌, inl, inr, Bool, true, false, cond, leb, ltb, List, [], ◌∷◌, length, drop, Some, refl, sym, ap, ◌∙◌, arith}
use Rattle.std.specs.Prelude.{slice_get, ◌↔◌, ◌&&◌}
use Rattle.std.specs.List.{list_all}
use Rattle.std.proofs.lemmas.Bool.{cases_Bool, cases_lt, lt-ltb, le-ltb}
use Rattle.std.proofs.lemmas.Option.{none-some, same_Some}
use Rattle.byteorder.specs.Numbers.{little_from-lt}
use Rattle.il_base.specs.Bytes.{number_at}
use Rattle.il_base.specs.blob_grammar.Laws.{AreBytes}
use Rattle.il_base.proofs.lemmas.body_grammar.ReadNumbers.{bytes-drop}
use Rattle.il_base.specs.cli_format.Demand.{number}
use Rattle.il_base.specs.world_model.Records.{Each, AreRuns}
use Rattle.rules.specs.file_layout.Runs.{run_fits, runs_fit, BeginsAfterAll}

-- ---- a test of each row

all_of : {A : Type 0} (test : A → Bool) (rows : List A) → Each (λ row. test row ≡ true) rows → list_all test rows ≡ true
all_of test [] h = refl
all_of test (x ∷ xs) h = rw (h 0 x refl) (all_of test xs (λ k row e. h (suc k) row e))

one_fails : {A : Type 0} (test : A → Bool) (rows : List A) → list_all test rows ≡ false → (k : ℕ) × (row : A) × (slice_get rows k ≡ Some row) × (test row ≡ false)
one_fails test [] e = absurd cc
one_fails test (x ∷ xs) e = elim (cases_Bool (test x)) [
  | inl holds ↦ (let r = one_fails test xs (sym (ap (λ (b : Bool). b && list_all test xs) holds) ∙ e) in (suc r.0, r.1, r.2, r.3))
  | inr fails ↦ (0, x, refl, fails)
]

fails : {A : Type 0} (test : A → Bool) (rows : List A) (k : ℕ) (row : A) → slice_get rows k ≡ Some row → test row ≡ false → list_all test rows ≡ false
fails test [] k row e f = absurd (none-some row e)
fails test (x ∷ xs) zero row e f = let same : x ≡ row = same_Some x row e in rw (same, f) refl
fails test (x ∷ xs) (suc k) row e f = right (test x) (list_all test xs) (fails test xs k row e f)
  where
    right : (a b : Bool) → b ≡ false → (a && b) ≡ false
    right true b e = e
    right false b e = refl

-- ---- a run

fits_below : (count first : ℕ) → first < 2 ^ 16 → run_fits count first ≡ true
fits_below count first h = elim (cases_Bool (ltb count 0x10000)) [
  | inl e ↦ rw e (lt-ltb first (2 ^ 16) h)
  | inr e ↦ rw e (lt-ltb first (2 ^ 32) (omega (arith, h)))
]

fits_wide : (count first : ℕ) → 0x10000 ≤ count → first < 2 ^ 32 → run_fits count first ≡ true
fits_wide count first long h = rw (le-ltb count 0x10000 long) (lt-ltb first (2 ^ 32) h)

after_all : (count first : ℕ) → first ≤ count + 1 → count ≤ 2 ^ 20 → run_fits count first ≡ false → (count ≡ 65535) × (first ≡ 65536)
after_all count first within few e = elim (cases_lt first 65536) [
  | inl low ↦ (let yes = fits_below count first (omega (arith, low)) in absurd (differ yes e))
  | inr high ↦ elim (cases_lt count 65536) [
    | inl short ↦ (omega (arith, within, high, short), omega (arith, within, high, short))
    | inr long ↦ (let yes = fits_wide count first long (omega (arith, within, few)) in absurd (differ yes e))
  ]
]
  where
    differ : {b : Bool} → b ≡ true → b ≡ false → ⊥
    differ p q = cc

pub without_spelling : {A : Type 0} (count : ℕ) (first end : A → ℕ) (rows : List A) → AreRuns count first end rows → count ≤ 2 ^ 20 → (runs_fit count first rows ≡ false) ↔ BeginsAfterAll count first rows
without_spelling count first end rows runs few = (
  λ e. let f = one_fails (λ row. run_fits count (first row)) rows e in
      let h = after_all count (first f.1) (omega (arith, runs.never_falls f.0 f.1 f.2, runs.within f.0 f.1 f.2)) few f.3 in (h.0, f.0, f.1, f.2, h.1),
  λ b. fails (λ row. run_fits count (first row)) rows b.1 b.2 b.3 (rw (b.0, b.4) refl),
)

pub all_fit : {A : Type 0} (count : ℕ) (first : A → ℕ) (rows : List A) → Each (λ row. run_fits count (first row) ≡ true) rows → runs_fit count first rows ≡ true
all_fit count first rows h = all_of (λ row. run_fits count (first row)) rows h

-- ---- a cell

pub number_below : (n : ℕ) (bs : List ℕ) (at : ℕ) → AreBytes bs → 0 < 256 ^ n → number n bs at < 256 ^ n
unfolding number number_at
number_below n bs at h z = elim (cases_Bool (leb (at + n) (length bs))) [
  | inl e ↦ rw e (little_from-lt 0 n (drop at bs) (bytes-drop at bs h))
  | inr e ↦ rw e z
]

-- a number of an index's width fits a run into its table
pub fits_width : (count first : ℕ) → first < 256 ^ cond (ltb count 0x10000) 2 4 → run_fits count first ≡ true
fits_width count first h = by_test (ltb count 0x10000) h
  where
    by_test : (b : Bool) → first < 256 ^ cond b 2 4 → ltb first (cond b (2 ^ 16) (2 ^ 32)) ≡ true
    by_test true h = lt-ltb first (2 ^ 16) (omega (arith, h))
    by_test false h = lt-ltb first (2 ^ 32) (omega (arith, h))
