-- The first row of a run that passes a test, row by row.
use Rattle.std.proofs.Common.{◌≡◌, ℕ, suc, ◌+◌, ◌-◌, ◌<◌, Bool, false, Option, refl, sym, ap, ◌∙◌, arith}
use Rattle.std.specs.List.{range_with_len}
use Rattle.rules.specs.type_rules.Dispatch.{place_that}

skip : (test : ℕ → Bool) (k n : ℕ) → test k ≡ false → place_that test (range_with_len k (suc n)) ≡ place_that test (range_with_len (k + 1) n)
skip test k n e = rw e refl

pub place_next : (test : ℕ → Bool) (s n i k : ℕ) (rest : Option ℕ) → i < n → k ≡ s + i → test k ≡ false → place_that test (range_with_len (s + i) (n - i)) ≡ rest
    → place_that test (range_with_len (s + (i + 1)) (n - (i + 1))) ≡ rest
place_next test s n i k rest h e f kept =
    let z : suc (n - (i + 1)) ≡ n - i = omega arith in
    let w : s + (i + 1) ≡ s + i + 1 = omega arith in
    let g : test (s + i) ≡ false = ap test (sym e) ∙ f in
    ap (λ (m : ℕ). place_that test (range_with_len m (n - (i + 1)))) w ∙ sym (skip test (s + i) (n - (i + 1)) g) ∙ ap (λ (m : ℕ). place_that test (range_with_len (s + i) m)) z ∙ kept
