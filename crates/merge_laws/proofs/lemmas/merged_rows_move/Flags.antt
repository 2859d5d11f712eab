-- Flags that a merge takes away change no other flag (II.23.1).
use Rattle.std.proofs.Common.{◌≡◌, ℕ, ◌+◌, ◌-◌, ◌*◌, ◌/◌, ◌%◌, ◌^◌, sym, ap, ◌∙◌, arith}
use Rattle.std.specs.Prelude.{bit_and, bit_xor}
use Rattle.std.specs.Int.{bit_at}
use Rattle.std.specs.Int.Bits.{and_self, and_zero_r, xor_add_and}
use Rattle.std.proofs.lemmas.Nat.{and_assoc, and_mask, and_xor_apart}
use Rattle.std.proofs.lemmas.Nat.Bits.{and_pow}
use Rattle.rules.specs.merge_rules.Moved.{without}

-- what a mask lets through where it doesn't let through what was taken
pub seen_stays : (flag mask flags : ℕ) → bit_and flag mask ≡ 0 → bit_and (without flag flags) mask ≡ bit_and flags mask
seen_stays flag mask flags apart =
    let taken : ℕ = bit_and flags flag in
    let twice : bit_and flags taken ≡ taken = sym (and_assoc flag flags flags) ∙ ap (λ (n : ℕ). bit_and n flag) (and_self flags) in
    let sum : bit_xor flags taken + bit_and flags taken * 2 ≡ flags + taken = xor_add_and flags taken in
    let is : flags - taken ≡ bit_xor flags taken = omega (arith, sum, twice) in
    ap (λ (n : ℕ). bit_and n mask) is
    ∙ and_xor_apart mask flags taken (and_assoc mask flags flag ∙ ap (bit_and flags) apart ∙ and_zero_r flags)

-- one flag
flag_is : (flags i n : ℕ) → bit_and flags (2 ^ i) ≡ n → bit_at flags i * 2 ^ i ≡ n
flag_is flags i n e = sym (and_pow flags i) ∙ e

low_is : (flags : ℕ) → bit_and flags 7 ≡ flags % 8
low_is flags = and_mask flags 3

pub access_stays : (flag flags : ℕ) → bit_and flag 7 ≡ 0 → without flag flags % 8 ≡ flags % 8
access_stays flag flags apart = sym (low_is (without flag flags)) ∙ seen_stays flag 7 flags apart ∙ low_is flags

-- the flags that are looked at
pub flag_16 : (flag flags : ℕ) → bit_and flag 16 ≡ 0 → without flag flags / 16 % 2 ≡ flags / 16 % 2
flag_16 flag flags apart = let e = flag_is (without flag flags) 4 (bit_and flags 16) (seen_stays flag 16 flags apart) in let f = and_pow flags 4 in omega (arith, e, f)

pub flag_32 : (flag flags : ℕ) → bit_and flag 32 ≡ 0 → without flag flags / 32 % 2 ≡ flags / 32 % 2
flag_32 flag flags apart = let e = flag_is (without flag flags) 5 (bit_and flags 32) (seen_stays flag 32 flags apart) in let f = and_pow flags 5 in omega (arith, e, f)

pub flag_64 : (flag flags : ℕ) → bit_and flag 64 ≡ 0 → without flag flags / 64 % 2 ≡ flags / 64 % 2
flag_64 flag flags apart = let e = flag_is (without flag flags) 6 (bit_and flags 64) (seen_stays flag 64 flags apart) in let f = and_pow flags 6 in omega (arith, e, f)

pub flag_256 : (flag flags : ℕ) → bit_and flag 256 ≡ 0 → without flag flags / 256 % 2 ≡ flags / 256 % 2
flag_256 flag flags apart = let e = flag_is (without flag flags) 8 (bit_and flags 256) (seen_stays flag 256 flags apart) in let f = and_pow flags 8 in omega (arith, e, f)
