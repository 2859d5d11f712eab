-- Flags as one of them is set.
use Rattle.std.proofs.Common.{◌≡◌, ℕ, zero, suc, ◌<◌, ◌≤◌, List, [], ◌∷◌, Bool, true, false, ◌⊎◌, inl, inr, refl, ap, slice_set, length, arith, length-set}
use Rattle.std.specs.Prelude.{replicate, if◌then◌else◌, not}
use Rattle.closure.specs.Facts.{is_set}
use Rattle.closure.specs.Rounds.{missing, with_fact}

pub below_length : (flags : List Bool) (n : ℕ) → is_set flags n ≡ true → n < length flags
below_length [] n e = cc
below_length (b ∷ flags) zero e = omega arith
below_length (b ∷ flags) (suc n) e = let h : n < length flags = below_length flags n e in omega arith

still_set : (flags : List Bool) (c n : ℕ) → is_set flags n ≡ true → is_set (slice_set flags c true) n ≡ true
still_set [] c n e = e
still_set (b ∷ flags) zero zero e = refl
still_set (b ∷ flags) zero (suc n) e = e
still_set (b ∷ flags) (suc c) zero e = e
still_set (b ∷ flags) (suc c) (suc n) e = still_set flags c n e

now_set : (flags : List Bool) (c : ℕ) → c < length flags → is_set (slice_set flags c true) c ≡ true
now_set [] c h = absurd (omega arith)
now_set (b ∷ flags) zero h = refl
now_set (b ∷ flags) (suc c) h = now_set flags c (omega arith)

newly_set : (flags : List Bool) (c n : ℕ) → is_set (slice_set flags c true) n ≡ true → (is_set flags n ≡ true) ⊎ (n ≡ c)
newly_set [] c n e = inl e
newly_set (b ∷ flags) zero zero e = inr refl
newly_set (b ∷ flags) zero (suc n) e = inl e
newly_set (b ∷ flags) (suc c) zero e = inl e
newly_set (b ∷ flags) (suc c) (suc n) e = elim (newly_set flags c n e) [ inl s ↦ inl s | inr f ↦ inr (ap suc f) ]

one_fewer : (flags : List Bool) (c : ℕ) → c < length flags → is_set flags c ≡ false → suc (missing (slice_set flags c true)) ≡ missing flags
one_fewer [] c h e = absurd (omega arith)
one_fewer (true ∷ flags) zero h e = cc
one_fewer (false ∷ flags) zero h e = refl
one_fewer (true ∷ flags) (suc c) h e = one_fewer flags c (omega arith) e
one_fewer (false ∷ flags) (suc c) h e = ap suc (one_fewer flags c (omega arith) e)

pub none_set : (n m : ℕ) → is_set (replicate n false) m ≡ true → ⊥
none_set zero m e = cc
none_set (suc n) zero e = cc
none_set (suc n) (suc m) e = none_set n m e

-- ---- one fact more

-- what one fact more keeps and adds
pub record Adds (c : ℕ) (before after : List Bool) : Type 0 where
  pub one_each : length after ≡ length before
  pub keeps : (n : ℕ) → is_set before n ≡ true → is_set after n ≡ true
  pub sets : c < length before → is_set after c ≡ true
  pub only : (n : ℕ) → is_set after n ≡ true → (is_set before n ≡ true) ⊎ (n ≡ c)
  pub fewer : c < length before → missing after ≤ missing before
  pub grows : c < length before → not (is_set before c) ≡ true → missing after < missing before
  pub same : not (is_set before c) ≡ false → after ≡ before

adds_by : (flags : List Bool) (c : ℕ) (b : Bool) → is_set flags c ≡ b → Adds c flags (if b then flags else slice_set flags c true)
adds_by flags c true e = record {
  one_each = refl;
  keeps = λ n s. s;
  sets = λ h. e;
  only = λ n s. inl s;
  fewer = λ h. omega arith;
  grows = λ h f. cc;
  same = λ f. refl;
}
adds_by flags c false e = record {
  one_each = length-set flags c true;
  keeps = still_set flags c;
  sets = now_set flags c;
  only = newly_set flags c;
  fewer = λ h. let f : suc (missing (slice_set flags c true)) ≡ missing flags = one_fewer flags c h e in omega arith;
  grows = λ h g. let f : suc (missing (slice_set flags c true)) ≡ missing flags = one_fewer flags c h e in omega arith;
  same = λ f. cc;
}

pub adds : (flags : List Bool) (c : ℕ) → Adds c flags (with_fact flags c)
unfolding with_fact
adds flags c = adds_by flags c (is_set flags c) refl
