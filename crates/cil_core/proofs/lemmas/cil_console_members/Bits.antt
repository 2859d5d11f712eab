-- Numbers of 64 bits that are read with a sign or without one.
use Rattle.std.proofs.Common.{◌≡◌, ◌∙◌, refl, ap, ℕ, suc, ◌+◌, ◌-◌, ◌<◌, arith}
use Rattle.std.specs.Prelude.{ℤ, pos, negsuc, Bool, true, false, nat_lt}
use Rattle.std.specs.Int.{w64, cast_signed, cast_unsigned, int_rem_euclid, int_wrap}
use Rattle.std.proofs.lemmas.Int.{of_z-to_z}
use Rattle.il_base.specs.declared.cil_values.value.Value.{Value}
use Rattle.rules.specs.step_rules.Integers.{cut, low, number}

-- a number and its two's complement are the same modulo 2 ^ 8, 2 ^ 16, 2 ^ 32 and 2 ^ 64
record Alike (z y : ℤ) : Type 0 where
  byte : int_rem_euclid z (pos 256) ≡ int_rem_euclid y (pos 256)
  half : int_rem_euclid z (pos 65536) ≡ int_rem_euclid y (pos 65536)
  word : int_rem_euclid z (pos 4294967296) ≡ int_rem_euclid y (pos 4294967296)
  long : int_rem_euclid z (pos 18446744073709551616) ≡ int_rem_euclid y (pos 18446744073709551616)

cut_alike : (code : ℕ) (z y : ℤ) → Alike z y → cut code z ≡ cut code y
unfolding cut low int_wrap
cut_alike code z y h = rw (h.byte, h.half, h.word, h.long) refl

below : (n a : ℕ) → a + suc n ≡ 18446744073709551616 → Alike (negsuc a) (pos n)
below n a h = record {
  byte = ap pos (omega arith);
  half = ap pos (omega arith);
  word = ap pos (omega arith);
  long = ap pos (omega arith);
}

same : (z : ℤ) → Alike z z
same z = record { byte = refl; half = refl; word = refl; long = refl }

alike_by : (n : ℕ) (b : Bool) → b ≡ nat_lt n 9223372036854775808 → n < 18446744073709551616 → Alike (cast_signed w64 n) (pos n)
alike_by n true e h = rw (← e) (same (pos n))
alike_by n false e h = rw (← e) (below n (18446744073709551616 - suc n) (omega arith))

number_signed : (code n : ℕ) → n < 18446744073709551616 → number code (cast_signed w64 n) ≡ number code (pos n)
unfolding number
number_signed code n h =
    let e : cut code (cast_signed w64 n) ≡ cut code (pos n) = cut_alike code (cast_signed w64 n) (pos n) (alike_by n (nat_lt n 9223372036854775808) refl h) in
    rw e refl

pub number_read : (code n : ℕ) (z : ℤ) (v : Value) → n < 18446744073709551616 → z ≡ cast_signed w64 n → v ≡ number code (cast_signed w64 (cast_unsigned w64 z)) → v ≡ number code (pos n)
number_read code n z v h e k =
    k ∙ ap (λ (m : ℕ). number code (cast_signed w64 m)) (ap (cast_unsigned w64) e ∙ of_z-to_z w64 n h) ∙ number_signed code n h
