-- An operand that was written is read again.
use Rattle.std.proofs.Common.{◌≡◌, ℕ, ◌+◌, ◌-◌, ◌*◌, ◌%◌, ◌^◌, ◌<◌, ◌≤◌, Bool, true, false, cond, ltb, leb, ◌||◌, List, [], ◌∷◌, ◌++◌, length, drop, Option, Some, None, ℤ, pos, negsuc, ◌-ℤ◌, inl, inr, refl, sym, ap, ap₂, subst, ◌∙◌, append_assoc, arith}
use Rattle.std.specs.Prelude.{option_map, option_and_then, FitsSigned}
use Rattle.std.specs.Int.{w8, w32, w64, cast_signed, cast_unsigned}
use Rattle.std.specs.List.{AllByRecursion}
use Rattle.std.proofs.lemmas.Bool.{ltb-true, lt-ltb, le-ltb, leb-true, or_cases}
use Rattle.std.proofs.lemmas.Int.{ints, to_z-of_z}
use Rattle.std.proofs.lemmas.List.{length-append, drop_at}
use Rattle.byteorder.specs.Endian.{little_bytes, little_number}
use Rattle.byteorder.specs.Numbers.{little_number-reads_back}
use Rattle.il_base.specs.declared.body.Operand.{Operand}
use Rattle.il_base.specs.declared.body.Operand.TheVariants as operand
use Rattle.il_base.specs.declared.body_grammar.body.Inline.{Inline}
use Rattle.il_base.specs.declared.body_grammar.body.Inline.TheVariants.{InlineNone, FixedSlot, FixedNumber, ShortInlineVar, InlineVar, ShortInlineI, InlineI, InlineI8, InlineTok, ShortInlineBrTarget, InlineBrTarget, InlineSwitch}
use Rattle.il_base.specs.body_grammar.Instructions.{target, extended, targets, switch_at, operand_at}
use Rattle.il_base.specs.body_grammar.BodySpelling.{distance, distances, bits, operand_bytes, IsOperand}
use Rattle.il_base.proofs.lemmas.body_grammar.WrittenNumbers.{number_front, byte_front}

pub target_back : (end t : ℕ) → t < 2 ^ 32 → target end (distance end t) ≡ t
target_back end t lt = omega arith

short_back : (d : ℕ) → d < 2 ^ 32 → (ltb d 128 || leb 4294967168 d) ≡ true → extended (d % 256) ≡ d
short_back d lt h =
    elim (or_cases (ltb d 128) (leb 4294967168 d) h) [
      | inl e ↦
          let small : d < 128 = ltb-true d 128 e in
          let same : d % 256 ≡ d = omega arith in
          let low : d % 256 < 128 = omega arith in
          rw (lt-ltb (d % 256) 128 low) same
      | inr e ↦
          let large : 4294967168 ≤ d = leb-true 4294967168 d e in
          let high : 128 ≤ d % 256 = omega arith in
          let same : d % 256 + 4294967040 ≡ d = omega arith in
          rw (le-ltb (d % 256) 128 high) same
    ]

pub byte_bits : (z : ℤ) → FitsSigned w8 z → bits z % 256 ≡ cast_unsigned w8 z
byte_bits (pos n) h = omega arith
byte_bits (negsuc n) h = omega arith

pub word_bits : (z : ℤ) → FitsSigned w32 z → bits z % 4294967296 ≡ cast_unsigned w32 z
word_bits (pos n) h = omega arith
word_bits (negsuc n) h = omega arith

byte_signed : (z : ℤ) → FitsSigned w8 z → cast_signed w8 (bits z % 256) ≡ z
byte_signed z h = ap (cast_signed w8) (byte_bits z h) ∙ to_z-of_z w8 z h

word_signed : (z : ℤ) → FitsSigned w32 z → cast_signed w32 (bits z % 4294967296) ≡ z
word_signed z h = ap (cast_signed w32) (word_bits z h) ∙ to_z-of_z w32 z h

long_signed : (z : ℤ) → FitsSigned w64 z → cast_signed w64 (bits z) ≡ z
long_signed z h = omega (arith, ints)

long_fits : (z : ℤ) → FitsSigned w64 z → bits z < 256 ^ 8
long_fits z h = omega (arith, ints)

-- ---- a switch

length-distances : (end : ℕ) (ts : List ℕ) → length (distances end ts) ≡ 4 * length ts
length-distances end [] = refl
length-distances end (t ∷ ts) = omega (arith, length-append (little_bytes 4 (distance end t)) (distances end ts), length-distances end ts)

targets_back : (end : ℕ) (ts rest : List ℕ) → AllByRecursion (λ t. t < 2 ^ 32) ts → targets (length ts) end (distances end ts ++ rest) ≡ ts
targets_back end [] rest h = refl
targets_back end (t ∷ ts) rest h =
    let d : ℕ = distance end t in
    let fits : d < 256 ^ 4 = omega arith in
    let regrouped : distances end (t ∷ ts) ++ rest ≡ little_bytes 4 d ++ (distances end ts ++ rest) = append_assoc (little_bytes 4 d) (distances end ts) rest in
    let first : little_number 4 (distances end (t ∷ ts) ++ rest) ≡ d =
    ap (little_number 4) regrouped ∙ little_number-reads_back 4 d (distances end ts ++ rest) fits in
    let others : drop 4 (distances end (t ∷ ts) ++ rest) ≡ distances end ts ++ rest =
    ap (drop 4) regrouped ∙ drop_at (little_bytes 4 d) (distances end ts ++ rest) 4 refl in
    ap₂ (λ (x : ℕ) (bs : List ℕ). target end x ∷ targets (length ts) end bs) first others
    ∙ ap₂ (λ (x : ℕ) (xs : List ℕ). x ∷ xs) (target_back end t h.0) (targets_back end ts rest h.1)

switch_again : (next : ℕ) (ts rest : List ℕ) → length ts < 2 ^ 32 → AllByRecursion (λ t. t < 2 ^ 32) ts
    → switch_at next ((little_bytes 4 (length ts % 4294967296) ++ distances (next + (4 + 4 * length ts)) ts) ++ rest) ≡ Some (operand.Targets ts, 4 + 4 * length ts)
unfolding switch_at
switch_again next ts rest lt fits =
    let end : ℕ = next + (4 + 4 * length ts) in
    let count : length ts % 4294967296 ≡ length ts = omega arith in
    let regrouped : (little_bytes 4 (length ts % 4294967296) ++ distances end ts) ++ rest ≡ little_bytes 4 (length ts) ++ (distances end ts ++ rest) =
    append_assoc (little_bytes 4 (length ts % 4294967296)) (distances end ts) rest ∙ ap (λ (n : ℕ). little_bytes 4 n ++ (distances end ts ++ rest)) count in
    let bs : List ℕ = little_bytes 4 (length ts) ++ (distances end ts ++ rest) in
    let enough : ltb (length bs) (4 + 4 * length ts) ≡ false =
    le-ltb (length bs) (4 + 4 * length ts) (omega (arith, length-append (little_bytes 4 (length ts)) (distances end ts ++ rest), length-append (distances end ts) rest, length-distances end ts)) in
    let behind : drop 4 bs ≡ distances end ts ++ rest = drop_at (little_bytes 4 (length ts)) (distances end ts ++ rest) 4 refl in
    ap (switch_at next) regrouped
    ∙ ap (λ (o : Option ℕ). option_and_then (λ n. cond (ltb (length bs) (4 + 4 * n)) None (Some (operand.Targets (targets n (next + (4 + 4 * n)) (drop 4 bs)), 4 + 4 * n))) o)
    (number_front 4 (length ts) (distances end ts ++ rest) (omega arith))
    ∙ ap₂ (λ (b : Bool) (x : List ℕ). cond b None (Some (operand.Targets (targets (length ts) end x), 4 + 4 * length ts))) enough behind
    ∙ ap (λ (x : List ℕ). Some (operand.Targets x, 4 + 4 * length ts)) (targets_back end ts rest fits)

-- ---- every operand

abbrev Again : Inline → ℕ → ℕ → Operand → List ℕ → Type 0
Again form op next o rest = operand_at form op next (operand_bytes form next o ++ rest) ≡ Some (o, length (operand_bytes form next o))

fixed : (form : Inline) (op next : ℕ) (a o : Operand) (rest : List ℕ) → Again form op next a rest → o ≡ a → Again form op next o rest
fixed form op next a o rest h e = subst (λ (x : Operand). Again form op next x rest) (sym e) h

pub operand_again : (form : Inline) (op next : ℕ) (o : Operand) (rest : List ℕ) → IsOperand form op next o
    → operand_at form op next (operand_bytes form next o ++ rest) ≡ Some (o, length (operand_bytes form next o))
unfolding IsOperand operand_at operand_bytes
operand_again InlineNone op next o rest h = fixed InlineNone op next operand.None o rest refl h
operand_again (FixedSlot first) op next o rest h = fixed (FixedSlot first) op next (operand.Slot (op - first)) o rest refl h
operand_again (FixedNumber first) op next o rest h = fixed (FixedNumber first) op next (operand.Number (pos op -ℤ pos first)) o rest refl h
operand_again ShortInlineVar op next (operand.Slot n) rest h =
    ap (option_map (λ m. (operand.Slot m, 1))) (byte_front (n % 256) rest) ∙ ap (λ (m : ℕ). Some (operand.Slot m, 1)) (omega arith)
operand_again InlineVar op next (operand.Slot n) rest h =
    ap (option_map (λ m. (operand.Slot m, 2))) (number_front 2 (n % 65536) rest (omega arith)) ∙ ap (λ (m : ℕ). Some (operand.Slot m, 2)) (omega arith)
operand_again ShortInlineI op next (operand.Number z) rest h =
    ap (option_map (λ m. (operand.Number (cast_signed w8 m), 1))) (byte_front (bits z % 256) rest) ∙ ap (λ (y : ℤ). Some (operand.Number y, 1)) (byte_signed z h)
operand_again InlineI op next (operand.Number z) rest h =
    ap (option_map (λ m. (operand.Number (cast_signed w32 m), 4))) (number_front 4 (bits z % 4294967296) rest (omega arith)) ∙ ap (λ (y : ℤ). Some (operand.Number y, 4)) (word_signed z h)
operand_again InlineI8 op next (operand.Number z) rest h =
    ap (option_map (λ m. (operand.Number (cast_signed w64 m), 8))) (number_front 8 (bits z) rest (long_fits z h)) ∙ ap (λ (y : ℤ). Some (operand.Number y, 8)) (long_signed z h)
operand_again InlineTok op next (operand.Token t) rest h =
    ap (option_map (λ m. (operand.Token m, 4))) (number_front 4 t rest h)
operand_again ShortInlineBrTarget op next (operand.Target t) rest h =
    ap (option_map (λ m. (operand.Target (target (next + 1) (extended m)), 1))) (byte_front (distance (next + 1) t % 256) rest)
    ∙ ap (λ (d : ℕ). Some (operand.Target (target (next + 1) d), 1)) (short_back (distance (next + 1) t) (omega arith) h.1)
    ∙ ap (λ (x : ℕ). Some (operand.Target x, 1)) (target_back (next + 1) t h.0)
operand_again InlineBrTarget op next (operand.Target t) rest h =
    ap (option_map (λ m. (operand.Target (target (next + 4) m), 4))) (number_front 4 (distance (next + 4) t) rest (omega arith))
    ∙ ap (λ (x : ℕ). Some (operand.Target x, 4)) (target_back (next + 4) t h)
operand_again InlineSwitch op next (operand.Targets ts) rest h =
    switch_again next ts rest h.0 h.1
    ∙ ap (λ (n : ℕ). Some (operand.Targets ts, n)) (omega (arith, length-append (little_bytes 4 (length ts % 4294967296)) (distances (next + (4 + 4 * length ts)) ts), length-distances (next + (4 + 4 * length ts)) ts))
operand_again _ op next _ rest h = absurd h
