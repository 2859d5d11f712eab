-- Numbers and the integer types that have them.
use Rattle.std.proofs.Common.{◌≡◌, ℕ, ◌+◌, ◌-◌, ◌*◌, ◌<◌, ◌≤◌, ◌^◌, ◌%◌, suc, ℤ, pos, negsuc, ◌+ℤ◌, Bool, true, false, nat_lt, refl, ap, sym, ◌∙◌, unsigned_abs, ◌⊎◌, inl, inr, arith, lit<}
use Rattle.std.specs.Int.{Width, w8, w16, w32, w64, cast_signed, int_rem_euclid, int_wrap}
use Rattle.std.proofs.lemmas.Int.{ints, to_z_pos, int_rem_euclid_is}
use Rattle.std.proofs.Math.Facts.{to_z-neg}
use Rattle.std.proofs.lemmas.Bool.Decides.{nat_tests}
use Rattle.rules.specs.step_rules.Integers.{low, cut, number, width_of}
use Rattle.rules.specs.step_rules.Numbers.{has_number, is_unsigned_type}
use Rattle.machine_numbers.specs.cil_conversions.Conversions.{has_in}

pub has_by : (natural : Bool) (width to : ℕ) (z : ℤ) → is_unsigned_type to ≡ natural → width_of to ≡ width → has_number to z ≡ has_in natural width z
unfolding has_number
has_by true width to z e f = rw (e, f) refl
has_by false width to z e f = rw (e, f) refl

-- ---- the low bits of a number from 0 to 2 ^ 64 - 1

below_true : (m n : ℕ) → nat_lt m n ≡ true → m < n
below_true m n e = grind (arith, nat_tests)

below_false : (m n : ℕ) → nat_lt m n ≡ false → n ≤ m
below_false m n e = grind (arith, nat_tests)

halves : (m : ℕ) → (m < 2 ^ 63) ⊎ (2 ^ 63 ≤ m)
halves m = elim (nat_lt m (2 ^ 63)) as (λ b. nat_lt m (2 ^ 63) ≡ b → (m < 2 ^ 63) ⊎ (2 ^ 63 ≤ m)) [ true ↦ (λ e. inl (below_true _ _ e)) | false ↦ (λ e. inr (below_false _ _ e)) ] refl

raised : (z : ℤ) (k m : ℕ) → z ≡ negsuc k → m + suc k ≡ 2 ^ 64 → z +ℤ pos (2 ^ 64) ≡ pos m
raised z k m e h = omega (arith, ints)

negative : (m k : ℕ) → k < 2 ^ 63 → m ≡ 2 ^ 64 - suc k → cast_signed w64 m ≡ negsuc k
negative m k lt e = ap (cast_signed w64) e ∙ to_z-neg w64 k lt

high : (m : ℕ) → 2 ^ 63 ≤ m → m < 2 ^ 64 → cast_signed w64 m +ℤ pos (2 ^ 64) ≡ pos m
high m h g =
    let lt : 2 ^ 64 - suc m < 2 ^ 63 = omega arith in
    let e : m ≡ 2 ^ 64 - suc (2 ^ 64 - suc m) = omega arith in
    let f : m + suc (2 ^ 64 - suc m) ≡ 2 ^ 64 = omega arith in
    raised (cast_signed w64 m) (2 ^ 64 - suc m) m (negative m (2 ^ 64 - suc m) lt e) f

low_in : (k n m : ℕ) → 0 < n → k * n ≡ 2 ^ 64 → m < 2 ^ 64 → (m < 2 ^ 63) ⊎ (2 ^ 63 ≤ m) → int_rem_euclid (cast_signed w64 m) (pos n) ≡ int_rem_euclid (pos m) (pos n)
low_in k n m above e h (inl lt) = ap (λ (z : ℤ). int_rem_euclid z (pos n)) (to_z_pos w64 m lt)
low_in k n m above e h (inr ge) = int_rem_euclid_is (cast_signed w64 m) (pos n) n k m above refl (rw e (high m ge h))

same_low : (k n m : ℕ) → 0 < n → k * n ≡ 2 ^ 64 → m < 2 ^ 64 → int_rem_euclid (cast_signed w64 m) (pos n) ≡ int_rem_euclid (pos m) (pos n)
same_low k n m above e h = low_in k n m above e h (halves m)

same8 : (m : ℕ) → m < 2 ^ 64 → int_rem_euclid (cast_signed w64 m) (pos (2 ^ 8)) ≡ int_rem_euclid (pos m) (pos (2 ^ 8))
same8 m h = same_low (2 ^ 56) (2 ^ 8) m (lit< tt) refl h

same16 : (m : ℕ) → m < 2 ^ 64 → int_rem_euclid (cast_signed w64 m) (pos (2 ^ 16)) ≡ int_rem_euclid (pos m) (pos (2 ^ 16))
same16 m h = same_low (2 ^ 48) (2 ^ 16) m (lit< tt) refl h

same32 : (m : ℕ) → m < 2 ^ 64 → int_rem_euclid (cast_signed w64 m) (pos (2 ^ 32)) ≡ int_rem_euclid (pos m) (pos (2 ^ 32))
same32 m h = same_low (2 ^ 32) (2 ^ 32) m (lit< tt) refl h

same64 : (m : ℕ) → m < 2 ^ 64 → int_rem_euclid (cast_signed w64 m) (pos (2 ^ 64)) ≡ int_rem_euclid (pos m) (pos (2 ^ 64))
same64 m h = same_low 1 (2 ^ 64) m (lit< tt) refl h

wrap8 : (m : ℕ) → m < 2 ^ 64 → int_wrap w8 (cast_signed w64 m) ≡ int_wrap w8 (pos m)
unfolding int_wrap
wrap8 m h = ap (λ (z : ℤ). cast_signed w8 (unsigned_abs z)) (same8 m h)

wrap16 : (m : ℕ) → m < 2 ^ 64 → int_wrap w16 (cast_signed w64 m) ≡ int_wrap w16 (pos m)
unfolding int_wrap
wrap16 m h = ap (λ (z : ℤ). cast_signed w16 (unsigned_abs z)) (same16 m h)

wrap32 : (m : ℕ) → m < 2 ^ 64 → int_wrap w32 (cast_signed w64 m) ≡ int_wrap w32 (pos m)
unfolding int_wrap
wrap32 m h = ap (λ (z : ℤ). cast_signed w32 (unsigned_abs z)) (same32 m h)

wrap64 : (m : ℕ) → m < 2 ^ 64 → int_wrap w64 (cast_signed w64 m) ≡ int_wrap w64 (pos m)
unfolding int_wrap
wrap64 m h = ap (λ (z : ℤ). cast_signed w64 (unsigned_abs z)) (same64 m h)

low8 : (m : ℕ) → m < 2 ^ 64 → low w8 (cast_signed w64 m) ≡ low w8 (pos m)
unfolding low
low8 m h = ap unsigned_abs (same8 m h)

low16 : (m : ℕ) → m < 2 ^ 64 → low w16 (cast_signed w64 m) ≡ low w16 (pos m)
unfolding low
low16 m h = ap unsigned_abs (same16 m h)

cut_of_bits : (to m : ℕ) → m < 2 ^ 64 → cut to (cast_signed w64 m) ≡ cut to (pos m)
unfolding cut
cut_of_bits to m h = rw (wrap8 m h, low8 m h, wrap16 m h, low16 m h, wrap64 m h, wrap32 m h) refl

pub number_of_bits : (to m : ℕ) → m < 2 ^ 64 → number to (cast_signed w64 m) ≡ number to (pos m)
unfolding number
number_of_bits to m h = rw (cut_of_bits to m h) refl
