-- A search over numbers: what is found is the first.
use Rattle.std.proofs.Common.{◌≡◌, ℕ, zero, suc, ◌+◌, ◌-◌, ◌<◌, ◌≤◌, Bool, true, false, Option, Some, None, ◌⊎◌, inl, inr, nat_lt, refl, ap, subst, ◌∙◌, arith}
use Rattle.std.specs.Prelude.{if◌then◌else◌}
use Rattle.std.proofs.lemmas.Bool.{ltb-true, ltb-false}
use Rattle.bad_items.specs.Searches.{found_from}

-- ---- one more, as a loop goes

pub found_here : (test : ℕ → Bool) (i end : ℕ) → i < end → test i ≡ true → found_from test (end - i) i ≡ Some i
unfolding found_from
found_here test i end below is =
    let n : end - i ≡ suc (end - (i + 1)) = omega arith in
    rw (n, is) refl

pub found_next : (test : ℕ → Bool) (i end : ℕ) → i < end → test i ≡ false → found_from test (end - i) i ≡ found_from test (end - (i + 1)) (i + 1)
unfolding found_from
found_next test i end below is =
    let n : end - i ≡ suc (end - (i + 1)) = omega arith in
    rw (n, is) refl

pub found_past : (test : ℕ → Bool) (i end : ℕ) → end ≤ i → found_from test (end - i) i ≡ None
unfolding found_from
found_past test i end past =
    let n : end - i ≡ zero = omega arith in
    rw n refl

-- ---- the first

pub record IsFirst (test : ℕ → Bool) (n i a : ℕ) : Type 0 where
  pub holds : test a ≡ true
  pub from : i ≤ a
  pub below : a < i + n
  pub least : (b : ℕ) → i ≤ b → test b ≡ true → a ≤ b

here_or : (i b : ℕ) → i ≤ b → (b ≡ i) ⊎ (i + 1 ≤ b)
here_or i b le = by (nat_lt i b) refl
  where
    by : (t : Bool) → nat_lt i b ≡ t → (b ≡ i) ⊎ (i + 1 ≤ b)
    by true e = let lt : i < b = ltb-true i b e in inr (omega (arith, lt))
    by false e = let ge : b ≤ i = ltb-false i b e in inl (omega (arith, ge, le))

first_by : (test : ℕ → Bool) (n i a : ℕ) (found : Option ℕ) → (found ≡ Some a → IsFirst test n (i + 1) a) → (t : Bool) → test i ≡ t → (if t then Some i else found) ≡ Some a → IsFirst test (suc n) i a
first_by test n i a found later true is same =
    let at : i ≡ a = cc in
    record { holds = subst (λ (k : ℕ). test k ≡ true) at is; from = omega (arith, at); below = omega (arith, at); least = λ b le h. omega (arith, at, le) }
first_by test n i a found later false is e =
    let f = later e in
    let from : i + 1 ≤ a = f.from in
    let below : a < i + 1 + n = f.below in
    record {
      holds = f.holds;
      from = omega (arith, from);
      below = omega (arith, below);
      least = λ b le h. elim (here_or i b le) [ inl here ↦ absurd (let other : test b ≡ false = ap test here ∙ is in cc) | inr after ↦ f.least b after h ];
    }

pub first_is : (test : ℕ → Bool) (n i a : ℕ) → found_from test n i ≡ Some a → IsFirst test n i a
unfolding found_from
first_is test zero i a e = absurd (cc)
first_is test (suc n) i a e = first_by test n i a (found_from test n (i + 1)) (first_is test n (i + 1) a) (test i) refl e

none_by : (test : ℕ → Bool) (n i : ℕ) (found : Option ℕ) → (found ≡ None → (b : ℕ) → i + 1 ≤ b → b < i + 1 + n → test b ≡ true → ⊥) → (t : Bool) → test i ≡ t → (if t then Some i else found) ≡ None
    → (b : ℕ) → i ≤ b → b < i + suc n → test b ≡ true → ⊥
none_by test n i found later true is e b le lt h = cc
none_by test n i found later false is e b le lt h =
    elim (here_or i b le) [
      | inl here ↦ (let other : test b ≡ false = ap test here ∙ is in cc)
      | inr after ↦ later e b after (omega (arith, lt)) h
    ]

pub none_is : (test : ℕ → Bool) (n i : ℕ) → found_from test n i ≡ None → (b : ℕ) → i ≤ b → b < i + n → test b ≡ true → ⊥
unfolding found_from
none_is test zero i e = λ b le lt h. omega (arith, le, lt)
none_is test (suc n) i e = none_by test n i (found_from test n (i + 1)) (none_is test n (i + 1)) (test i) refl e
