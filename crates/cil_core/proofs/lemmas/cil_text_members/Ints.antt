-- Texts of int32.
use Rattle.std.proofs.Common.{◌≡◌, ◌∙◌, refl, sym, ap, ℕ, zero, suc, ◌+◌, ◌*◌, ◌<◌, ◌≤◌, List, [], ◌∷◌, arith}
use Rattle.std.specs.Prelude.{ℤ, pos, Bool, true, false, Option, Some, None, min, nat_le, nat_lt, neg_ℤ}
use Rattle.std.specs.Int.{w32}
use Rattle.std.specs.Option.{option_map, option_and_then}
use Rattle.std.proofs.lemmas.Bool.Decides.{nat_tests}
use Rattle.il_base.specs.declared.cil_values.state.State.{State}
use Rattle.rules.specs.step_rules.Queries.{Queries}
use Rattle.rules.specs.step_rules.Integers.{fits_signed}
use Rattle.rules.specs.step_rules.CoreWords.{Gives}
use Rattle.rules.specs.step_rules.CoreTexts.{digit_of, digits_from, int_or_raise as raised_or}
use Rattle.cil_core.specs.declared.cil_text_members.numbers.Parsed.TheVariants as parsed
use Rattle.cil_core.specs.cil_text_members.Parsed.{as_int, enough, fitting, int_or_raise, signed}

-- ---- digits

capped : (e n d : ℕ) → min e (min e n * 10 + d) ≡ min e (n * 10 + d)
capped e n d = omega arith

opened : (n u : ℕ) (us : List ℕ) → digits_from n (u ∷ us) ≡ option_and_then (λ d. digits_from (n * 10 + d) us) (digit_of u)
unfolding digits_from
opened n u us = refl

none_left : (n : ℕ) → digits_from n [] ≡ Some n
unfolding digits_from
none_left n = refl

-- what digits make after a number, and after the same number cut
abbrev pub NearFrom : List ℕ → Type 0
NearFrom us = (n : ℕ) → option_map (min enough) (digits_from n us) ≡ option_map (min enough) (digits_from (min enough n) us)

near_digit : (us : List ℕ) → NearFrom us → (n : ℕ) (d : Option ℕ) → option_map (min enough) (option_and_then (λ d. digits_from (n * 10 + d) us) d)
    ≡ option_map (min enough) (option_and_then (λ d. digits_from (min enough n * 10 + d) us) d)
near_digit us ih n None = refl
near_digit us ih n (Some d) = ih (n * 10 + d) ∙ ap (λ (m : ℕ). option_map (min enough) (digits_from m us)) (sym (capped enough n d)) ∙ sym (ih (min enough n * 10 + d))

near_from : (us : List ℕ) → NearFrom us
near_from [] n = rw (none_left n, none_left (min enough n)) (ap (λ (m : ℕ). Some m) (omega arith))
near_from (u ∷ us) n = rw (opened n u us, opened (min enough n) u us) (near_digit us (near_from us) n (digit_of u))

pub no_digit : (n u : ℕ) (us : List ℕ) → digit_of u ≡ None → option_map (min enough) (digits_from n (u ∷ us)) ≡ None
no_digit n u us e = rw (opened n u us, e) refl

pub one_digit : (n u d m : ℕ) (us : List ℕ) → digit_of u ≡ Some d → m ≡ min (n * 10 + d) enough
    → option_map (min enough) (digits_from m us) ≡ option_map (min enough) (digits_from n (u ∷ us))
one_digit n u d m us e k =
    let f : m ≡ min enough (n * 10 + d) = omega arith in
    rw (opened n u us, e, f) (sym (near_from us (n * 10 + d)))

pub all_digits : (n : ℕ) → n ≤ enough → option_map (min enough) (digits_from n []) ≡ Some n
all_digits n h = rw (none_left n) (ap (λ (m : ℕ). Some m) (omega arith))

-- ---- signs

large : (b : Bool) (n : ℕ) → enough ≤ n → fits_signed w32 (signed b n) ≡ false
unfolding fits_signed
large false n h = grind (arith, nat_tests)
large true zero h = absurd (omega (arith, h))
large true (suc n) h = grind (arith, nat_tests)

near_by : (b : Bool) (n : ℕ) (c : Bool) → c ≡ nat_le n enough → fitting (signed b (min enough n)) ≡ fitting (signed b n)
near_by b n true e =
    let h : min enough n ≡ n = grind (arith, nat_tests) in
    rw h refl
near_by b n false e =
    let h : enough ≤ n = grind (arith, nat_tests) in
    let k : min enough n ≡ enough = omega arith in
    rw (k, large b n h, large b enough (omega arith)) refl

pub near : (b : Bool) (d : Option ℕ) → as_int (option_map (signed b) (option_map (min enough) d)) ≡ as_int (option_map (signed b) d)
near b None = refl
near b (Some n) = near_by b n (nat_le n enough) refl

pub fits_not : (n : ℕ) → 2147483647 < n → parsed.TooLarge ≡ fitting (signed false n)
unfolding fits_signed
fits_not n h = let e : nat_lt n 2147483648 ≡ false = grind (arith, nat_tests) in rw e refl

pub fits_well : (n : ℕ) (z : ℤ) → n ≤ 2147483647 → z ≡ pos n → parsed.Number z ≡ fitting (signed false n)
unfolding fits_signed
fits_well n z h k = let e : nat_lt n 2147483648 ≡ true = grind (arith, nat_tests) in rw (e, k) refl

pub negative_not : (n : ℕ) → 2147483648 < n → parsed.TooLarge ≡ fitting (signed true n)
unfolding fits_signed
negative_not zero h = absurd (omega (arith, h))
negative_not (suc n) h = let e : nat_lt n 2147483648 ≡ false = grind (arith, nat_tests) in rw e refl

pub negative_well : (n : ℕ) (z : ℤ) → n ≤ 2147483648 → z ≡ neg_ℤ (pos n) → parsed.Number z ≡ fitting (signed true n)
unfolding fits_signed
negative_well zero z h k = rw k refl
negative_well (suc n) z h k = let e : nat_lt n 2147483648 ≡ true = grind (arith, nat_tests) in rw (e, k) refl

-- ---- what is raised

raised_fit : (q : Queries) (s : State) (give : Gives) (n : ℤ) (b : Bool) → fits_signed w32 n ≡ b → raised_or q s give (Some n) ≡ int_or_raise q s give (as_int (Some n))
raised_fit q s give n true e = rw e refl
raised_fit q s give n false e = rw e refl

pub int_or_raised : (q : Queries) (s : State) (give : Gives) (n : Option ℤ) → raised_or q s give n ≡ int_or_raise q s give (as_int n)
int_or_raised q s give None = refl
int_or_raised q s give (Some n) = raised_fit q s give n (fits_signed w32 n) refl
