-- Numbers that are checked for their width, as std's methods check them.
use Rattle.std.proofs.Common.{◌≡◌, ℕ, ◌+◌, ◌-◌, ◌*◌, ◌/◌, ◌<◌, ◌≤◌, ◌^◌, ℤ, pos, negsuc, Bool, true, false, Option, Some, None, SomeIff, FitsSigned, nat_lt, nat_le, int_div, int_rem, unsigned_abs, refl, sym, ◌∙◌, ap, subst, arith}
use Rattle.std.specs.Int.{Width, w8, w16, w32, w64, w128, CanDivide, IsNonZero, cast_unsigned, cast_signed}
use Rattle.std.specs.Option.{option_map}
use Rattle.std.proofs.lemmas.Bool.Decides.{nat_tests}
use Rattle.std.proofs.lemmas.Int.{to_z-of_z}
use Rattle.rules.specs.step_rules.Integers.{bits, fits_signed, fits_unsigned}
use Rattle.rules.specs.step_rules.Numbers as rules
use Rattle.machine_numbers.specs.declared.cil_arithmetic.answer.Answer.{Answer}
use Rattle.machine_numbers.specs.cil_arithmetic.Answers.{answer_by, or_overflow}

lt_true : (n m : ℕ) → n < m → nat_lt n m ≡ true
lt_true n m h = grind (arith, nat_tests)

lt_false : (n m : ℕ) → (n < m → ⊥) → nat_lt n m ≡ false
lt_false n m h = grind (arith, nat_tests)

pub fits_true : (w : Width) (z : ℤ) → FitsSigned w z → fits_signed w z ≡ true
unfolding fits_signed
fits_true w32 (pos n) h = lt_true _ _ h.sfits
fits_true w32 (negsuc n) h = lt_true _ _ h.sfits
fits_true w64 (pos n) h = lt_true _ _ h.sfits
fits_true w64 (negsuc n) h = lt_true _ _ h.sfits
fits_true w8 (pos n) h = lt_true _ _ h.sfits
fits_true w8 (negsuc n) h = lt_true _ _ h.sfits
fits_true w16 (pos n) h = lt_true _ _ h.sfits
fits_true w16 (negsuc n) h = lt_true _ _ h.sfits
fits_true w128 (pos n) h = lt_true _ _ h.sfits
fits_true w128 (negsuc n) h = lt_true _ _ h.sfits

pub fits_false : (w : Width) (z : ℤ) → (FitsSigned w z → ⊥) → fits_signed w z ≡ false
unfolding fits_signed
fits_false w32 (pos n) h = lt_false _ _ (λ lt. h (record { sfits = lt }))
fits_false w32 (negsuc n) h = lt_false _ _ (λ lt. h (record { sfits = lt }))
fits_false w64 (pos n) h = lt_false _ _ (λ lt. h (record { sfits = lt }))
fits_false w64 (negsuc n) h = lt_false _ _ (λ lt. h (record { sfits = lt }))
fits_false w8 (pos n) h = lt_false _ _ (λ lt. h (record { sfits = lt }))
fits_false w8 (negsuc n) h = lt_false _ _ (λ lt. h (record { sfits = lt }))
fits_false w16 (pos n) h = lt_false _ _ (λ lt. h (record { sfits = lt }))
fits_false w16 (negsuc n) h = lt_false _ _ (λ lt. h (record { sfits = lt }))
fits_false w128 (pos n) h = lt_false _ _ (λ lt. h (record { sfits = lt }))
fits_false w128 (negsuc n) h = lt_false _ _ (λ lt. h (record { sfits = lt }))

pub exactly_by : (w : Width) (z : ℤ) (o : Option ℤ) → SomeIff o (FitsSigned w z) z → answer_by (or_overflow o) ≡ rules.exactly w z
exactly_by w z None h = rw (fits_false w z h) refl
exactly_by w z (Some n) h = rw (h.1, fits_true w z h.0) refl

-- a number of the code, where it is passed on
pub passed : {A : Type 0} (w : Width) (f : ℤ → ℤ → A) (a b : ℤ) → FitsSigned w a → FitsSigned w b → f (cast_signed w (cast_unsigned w a)) (cast_signed w (cast_unsigned w b)) ≡ f a b
passed w f a b p q = rw (to_z-of_z w a p, to_z-of_z w b q) refl

pub checked_by : (w : Width) (z y : ℤ) (o : Option ℤ) (r : Answer ℤ) → y ≡ z → SomeIff o (FitsSigned w y) y → r ≡ or_overflow o → answer_by r ≡ rules.exactly w z
checked_by w z y o r e h is = ap answer_by is ∙ exactly_by w y o h ∙ ap (rules.exactly w) e

-- ---- division

not_zero : (w : Width) (b : ℤ) → (cast_unsigned w b ≡ 0 → ⊥) → rules.is_zero b ≡ false
not_zero w (pos n) h = grind (arith, nat_tests)
not_zero w (negsuc n) h = refl

above_zero : (n : ℕ) → (n ≡ 0 → ⊥) → 0 < n
above_zero n h = omega arith

pub divided_by : (w : Width) (a b : ℤ) (o : Option ℤ) (r : Answer ℤ) → (cast_unsigned w b ≡ 0 → ⊥) → SomeIff o (CanDivide w a b) (int_div a b) → r ≡ or_overflow o → answer_by r ≡ rules.divided w a b
divided_by w a b None r nz h is = rw (is, not_zero w b nz, fits_false w (int_div a b) (λ f. h (above_zero _ nz, f))) refl
divided_by w a b (Some n) r nz h is = rw (is, not_zero w b nz, fits_true w (int_div a b) h.0.1, h.1) refl

pub remainder_by : (w : Width) (a b : ℤ) (o : Option ℤ) (r : Answer ℤ) → (cast_unsigned w b ≡ 0 → ⊥) → SomeIff o (CanDivide w a b) (int_rem a b) → r ≡ or_overflow o → answer_by r ≡ rules.remainder w a b
remainder_by w a b None r nz h is = rw (is, not_zero w b nz, fits_false w (int_div a b) (λ f. h (above_zero _ nz, f))) refl
remainder_by w a b (Some n) r nz h is = rw (is, not_zero w b nz, fits_true w (int_div a b) h.0.1, h.1) refl

-- ---- unsigned numbers

le_true : (n m : ℕ) → n ≤ m → nat_le n m ≡ true
le_true n m h = grind (arith, nat_tests)

le_false : (n m : ℕ) → (n ≤ m → ⊥) → nat_le n m ≡ false
le_false n m h = grind (arith, nat_tests)

-- the bits of a number of the code, where it is passed on
pub bits_of : (w : Width) (a : ℤ) (n : ℕ) → FitsSigned w a → n ≡ cast_unsigned w (cast_signed w (cast_unsigned w a)) → n ≡ cast_unsigned w a
bits_of w a n f e = e ∙ ap (cast_unsigned w) (to_z-of_z w a f)

pub unsigned_by : (w : Width) (k : ℕ) (o : Option ℕ) (r : Answer ℤ) → SomeIff o (k < 2 ^ bits w) k → r ≡ or_overflow (option_map (cast_signed w) o) → answer_by r ≡ rules.exactly_unsigned w k
unsigned_by w k None r h is = rw (is, lt_false k (2 ^ bits w) h) refl
unsigned_by w k (Some n) r h is = rw (is, lt_true k (2 ^ bits w) h.0, h.1) refl

pub minus_by : (w : Width) (m n : ℕ) (o : Option ℕ) (r : Answer ℤ) → SomeIff o (n ≤ m) (m - n) → r ≡ or_overflow (option_map (cast_signed w) o) → answer_by r ≡ rules.minus_unsigned w m n
minus_by w m n None r h is = rw (is, le_false n m h) refl
minus_by w m n (Some k) r h is = rw (is, le_true n m h.0, h.1) refl
