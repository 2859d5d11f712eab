-- The first number with which a name isn't taken.
use Rattle.std.proofs.Common.{◌≡◌, ℕ, suc, ◌+◌, ◌-◌, ◌<◌, ◌≤◌, Bool, true, false, List, refl, sym, ap, ◌∙◌, arith}
use Rattle.rules.specs.merge_rules.Names.{numbered_name, free_from}

module _ (test : List ℕ → Bool) (name : List ℕ) where
  pub free_found : (i most : ℕ) (n whole : List ℕ) (b : Bool) → i < most → n ≡ numbered_name name i → b ≡ test n → b ≡ false → free_from test name i (most - i) ≡ whole → n ≡ whole
  free_found i most n whole b below is tests off e =
      let left : most - i ≡ suc (most - (i + 1)) = omega arith in
      let here : test (numbered_name name i) ≡ false = ap test (sym is) ∙ sym tests ∙ off in
      let found : free_from test name i (most - i) ≡ numbered_name name i = rw (left, here) refl in
      is ∙ sym found ∙ e

  pub free_more : (i most : ℕ) (n whole : List ℕ) (b : Bool) → i < most → n ≡ numbered_name name i → b ≡ test n → b ≡ true → free_from test name i (most - i) ≡ whole → free_from test name (i + 1) (most - (i + 1)) ≡ whole
  free_more i most n whole b below is tests on e =
      let left : most - i ≡ suc (most - suc i) = omega arith in
      let one : i + 1 ≡ suc i = omega arith in
      let here : test (numbered_name name i) ≡ true = ap test (sym is) ∙ sym tests ∙ on in
      let next : free_from test name i (most - i) ≡ free_from test name (suc i) (most - suc i) = rw (left, here) refl in
      rw one (sym next ∙ e)

  pub free_last : (i most : ℕ) (n whole : List ℕ) → most ≤ i → i ≤ most → n ≡ numbered_name name most → free_from test name i (most - i) ≡ whole → n ≡ whole
  free_last i most n whole past within is e =
      let none : most - i ≡ 0 = omega arith in
      let end : i ≡ most = omega arith in
      let last : free_from test name i (most - i) ≡ numbered_name name i = rw none refl in
      is ∙ ap (numbered_name name) (sym end) ∙ sym last ∙ e
