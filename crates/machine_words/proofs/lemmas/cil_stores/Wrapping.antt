-- The lowest bits of a number, read with a sign, are the number wrapped to their width.
use Rattle.std.proofs.Common.{◌≡◌, refl}
use Rattle.std.specs.Prelude.{ℤ}
use Rattle.std.specs.Int.{w8, w16, w32, cast_signed, int_wrap}
use Rattle.rules.specs.step_rules.Integers.{low, wrap}

pub wrap_byte : (n : ℤ) → cast_signed w8 (low w8 n) ≡ wrap w8 n
unfolding low int_wrap
wrap_byte n = refl

pub wrap_half : (n : ℤ) → cast_signed w16 (low w16 n) ≡ wrap w16 n
unfolding low int_wrap
wrap_half n = refl

pub wrap_word : (n : ℤ) → cast_signed w32 (low w32 n) ≡ wrap w32 n
unfolding low int_wrap
wrap_word n = refl
