-- The flags of the CLI header that are kept (II.25.3.3.1): ILONLY, and two of the input's.
use Rattle.std.proofs.Common.{◌≡◌, ℕ, ◌*◌, ◌/◌, ◌%◌, ◌^◌, ◌<◌, ◌≤◌, refl, sym, ap, ◌∙◌, arith}
use Rattle.std.specs.Prelude.{bit_and}
use Rattle.std.proofs.lemmas.Nat.{and_le_r, and_assoc, and_mask}
use Rattle.std.proofs.lemmas.Nat.Bits.{and_pow}
use Rattle.rules.specs.merge_rules.Restricted.{kept_bits}

and_none : (a : ℕ) → bit_and a 0 ≡ 0
and_none a = let h : bit_and a 0 ≤ 0 = and_le_r a 0 in omega arith

apart : (bits k : ℕ) → bit_and 0x20002 k ≡ 0 → bit_and (bit_and bits 0x20002) k ≡ 0
apart bits k e = and_assoc k bits 0x20002 ∙ ap (bit_and bits) e ∙ and_none bits

even : (bits : ℕ) → bit_and bits 0x20002 % 2 ≡ 0
even bits = sym (and_mask (bit_and bits 0x20002) 1) ∙ apart bits 1 refl

fourth : (n : ℕ) → bit_and n 16 ≡ n / 16 % 2 * 16
fourth n = and_pow n 4

pub bits_small : (bits : ℕ) → kept_bits bits < 2 ^ 32
bits_small bits = let h : bit_and bits 0x20002 ≤ 0x20002 = and_le_r bits 0x20002 in omega arith

pub bits_il_only : (bits : ℕ) → bit_and (kept_bits bits) 1 ≡ 1
bits_il_only bits = and_mask (kept_bits bits) 1 ∙ (let e : bit_and bits 0x20002 % 2 ≡ 0 = even bits in omega arith)

pub bits_not_native : (bits : ℕ) → bit_and (kept_bits bits) 16 ≡ 0
bits_not_native bits =
    let e : bit_and bits 0x20002 % 2 ≡ 0 = even bits in
    let f : bit_and bits 0x20002 / 16 % 2 * 16 ≡ 0 = sym (fourth (bit_and bits 0x20002)) ∙ apart bits 16 refl in
    fourth (kept_bits bits) ∙ omega arith
