-- How many numbers below a bound don't pass a test.
use Rattle.std.proofs.Common.{◌≡◌, ℕ, zero, suc, ◌<◌, ◌≤◌, Bool, true, false, ◌⊎◌, inl, inr, refl, sym, ap, ◌∙◌, arith}
use Rattle.std.proofs.lemmas.Bool.{cases_lt}

abbrev pub one_more : Bool → ℕ → ℕ
one_more true n = n
one_more false n = suc n

abbrev pub missing : ℕ → (ℕ → Bool) → ℕ
missing zero p = 0
missing (suc k) p = one_more (p k) (missing k p)

within_by : (b : Bool) (n k : ℕ) → n ≤ k → one_more b n ≤ suc k
within_by true n k le = omega arith
within_by false n k le = omega arith

pub within : (k : ℕ) (p : ℕ → Bool) → missing k p ≤ k
within zero p = omega arith
within (suc k) p = within_by (p k) (missing k p) k (within k p)

no_more_by : (a b : Bool) (m n : ℕ) → (a ≡ true → b ≡ true) → n ≤ m → one_more b n ≤ one_more a m
no_more_by true true m n f le = le
no_more_by true false m n f le = let e : false ≡ true = f refl in absurd (cc)
no_more_by false true m n f le = omega arith
no_more_by false false m n f le = omega arith

pub no_more : (k : ℕ) (p q : ℕ → Bool) → ((j : ℕ) → p j ≡ true → q j ≡ true) → missing k q ≤ missing k p
no_more zero p q more = omega arith
no_more (suc k) p q more = no_more_by (p k) (q k) (missing k p) (missing k q) (more k) (no_more k p q more)

fewer_by : (a b : Bool) (m n : ℕ) → (a ≡ true → b ≡ true) → n < m → one_more b n < one_more a m
fewer_by true true m n f lt = lt
fewer_by true false m n f lt = let e : false ≡ true = f refl in absurd (cc)
fewer_by false true m n f lt = omega arith
fewer_by false false m n f lt = omega arith

here_by : (a b : Bool) (m n : ℕ) → a ≡ false → b ≡ true → n ≤ m → one_more b n < one_more a m
here_by false true m n e f le = omega arith
here_by false false m n e f le = absurd (cc)
here_by true b m n e f le = absurd (cc)

fewer_here : (k : ℕ) (p q : ℕ → Bool) → ((j : ℕ) → p j ≡ true → q j ≡ true) → (j : ℕ) → j < suc k → p j ≡ false → q j ≡ true → (j < k) ⊎ (k ≤ j) → (j < k → missing k q < missing k p)
    → one_more (q k) (missing k q) < one_more (p k) (missing k p)
fewer_here k p q more j lt unmet met (inl below) next = fewer_by (p k) (q k) (missing k p) (missing k q) (more k) (next below)
fewer_here k p q more j lt unmet met (inr le) next =
    let same : j ≡ k = omega (arith, lt, le) in
    here_by (p k) (q k) (missing k p) (missing k q) (sym (ap p same) ∙ unmet) (sym (ap q same) ∙ met) (no_more k p q more)

-- one number more passes
pub fewer : (k : ℕ) (p q : ℕ → Bool) → ((j : ℕ) → p j ≡ true → q j ≡ true) → (j : ℕ) → j < k → p j ≡ false → q j ≡ true → missing k q < missing k p
fewer zero p q more j lt unmet met = absurd (omega arith)
fewer (suc k) p q more j lt unmet met = fewer_here k p q more j lt unmet met (cases_lt j k) (λ below. fewer k p q more j below unmet met)
