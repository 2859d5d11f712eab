-- An operand that is read is spelled by the bytes it was read from.
use Rattle.std.proofs.Common.{◌≡◌, ℕ, zero, suc, ◌+◌, ◌-◌, ◌*◌, ◌%◌, ◌^◌, ◌<◌, ◌≤◌, Bool, true, cond, ltb, leb, ◌||◌, List, [], ◌∷◌, ◌++◌, length, take, drop, Some, None, pos, ◌-ℤ◌, inl, inr, refl, sym, ap, ap₂, subst, ◌∙◌, arith}
use Rattle.std.specs.Prelude.{FitsSigned}
use Rattle.std.specs.Int.{w8, w32, w64, cast_signed}
use Rattle.std.specs.List.{AllByRecursion}
use Rattle.std.proofs.lemmas.Bool.{cases_lt, ltb-false, lt-ltb, le-ltb, le-leb}
use Rattle.std.proofs.lemmas.Int.{of_z-to_z}
use Rattle.std.proofs.Math.Facts.{sfits_to_z}
use Rattle.std.proofs.lemmas.List.{length-drop}
use Rattle.byteorder.specs.Endian.{little_bytes, little_number}
use Rattle.byteorder.specs.Numbers.{little_from-lt}
use Rattle.il_base.specs.Bytes.{number_at}
use Rattle.il_base.specs.declared.body.Operand.{Operand}
use Rattle.il_base.specs.declared.body.Operand.TheVariants as operand
use Rattle.il_base.specs.declared.body_grammar.body.Inline.{Inline}
use Rattle.il_base.specs.declared.body_grammar.body.Inline.TheVariants.{InlineNone, FixedSlot, FixedNumber, ShortInlineVar, InlineVar, ShortInlineI, InlineI, InlineI8, InlineTok, ShortInlineBrTarget, InlineBrTarget, InlineSwitch}
use Rattle.il_base.specs.body_grammar.Instructions.{target, extended, targets, switch_at, operand_at}
use Rattle.il_base.specs.body_grammar.BodySpelling.{distance, distances, bits, operand_bytes, IsOperand}
use Rattle.il_base.proofs.lemmas.body_grammar.WrittenOperands.{byte_bits, word_bits}
use Rattle.il_base.proofs.lemmas.body_grammar.ReadNumbers.{IsBytes, bytes-drop, map_some, then_some, none_if, some_is, take-add, is_1, is_2, is_4, is_8, spelled_4}

-- an operand and the bytes that it takes
pub record Takes (form : Inline) (op next : ℕ) (bs : List ℕ) (x : Operand × ℕ) : Type 0 where
  pub is : IsOperand form op next x.0
  pub spelled : take x.1 bs ≡ operand_bytes form next x.0
  pub within : x.1 ≤ length bs

distance_back : (end d : ℕ) → d < 2 ^ 32 → distance end (target end d) ≡ d
distance_back end d lt = omega arith

extended_fits : (b : ℕ) → b < 256 → (extended b < 2 ^ 32) × (extended b % 256 ≡ b) × ((ltb (extended b) 128 || leb 4294967168 (extended b)) ≡ true)
extended_fits b lt =
    elim (cases_lt b 128) [
      | inl small ↦ rw (lt-ltb b 128 small) (omega arith, omega arith, ap (λ (t : Bool). t || leb 4294967168 b) (lt-ltb b 128 small))
      | inr large ↦
          let high : 4294967168 ≤ b + 4294967040 = omega arith in
          let not_low : 128 ≤ b + 4294967040 = omega arith in
          rw (le-ltb b 128 large) (
            omega arith,
            omega arith,
            ap₂ (λ (t u : Bool). t || u) (le-ltb (b + 4294967040) 128 not_low) (le-leb 4294967168 (b + 4294967040) high),
          )
    ]

fits_byte : (m : ℕ) → m < 256 → FitsSigned w8 (cast_signed w8 m)
fits_byte m lt = sfits_to_z (record { fits = lt })

fits_word : (m : ℕ) → m < 4294967296 → FitsSigned w32 (cast_signed w32 m)
fits_word m lt = sfits_to_z (record { fits = lt })

fits_long : (m : ℕ) → m < 18446744073709551616 → FitsSigned w64 (cast_signed w64 m)
fits_long m lt = sfits_to_z (record { fits = lt })

-- ---- a switch

length-targets : (n end : ℕ) (bs : List ℕ) → length (targets n end bs) ≡ n
length-targets zero end bs = refl
length-targets (suc n) end bs = ap suc (length-targets n end (drop 4 bs))

targets_fit : (n end : ℕ) (bs : List ℕ) → AllByRecursion (λ t. t < 2 ^ 32) (targets n end bs)
targets_fit zero end bs = tt
targets_fit (suc n) end bs = (omega arith, targets_fit n end (drop 4 bs))

targets_spelled : (n end : ℕ) (bs : List ℕ) → IsBytes bs → 4 * n ≤ length bs → take (4 * n) bs ≡ distances end (targets n end bs)
targets_spelled zero end bs fits long = refl
targets_spelled (suc n) end bs fits long =
    let d : ℕ = little_number 4 bs in
    let enough : 4 ≤ length bs = omega arith in
    let lt : d < 4294967296 = little_from-lt 0 4 bs fits in
    let four : 4 * suc n ≡ 4 + 4 * n = omega arith in
    let others = targets_spelled n end (drop 4 bs) (bytes-drop 4 bs fits) (omega (arith, length-drop 4 bs)) in
    ap (λ (k : ℕ). take k bs) four ∙ take-add 4 (4 * n) bs
    ∙ ap₂ (λ (x y : List ℕ). x ++ y) (spelled_4 bs enough fits ∙ ap (little_bytes 4) (sym (distance_back end d lt))) others

switch_takes : (op next : ℕ) (bs : List ℕ) (x : Operand × ℕ) → IsBytes bs → switch_at next bs ≡ Some x → Takes InlineSwitch op next bs x
unfolding switch_at IsOperand operand_bytes
switch_takes op next bs x fits e =
    let p = then_some (λ n. cond (ltb (length bs) (4 + 4 * n)) None (Some (operand.Targets (targets n (next + (4 + 4 * n)) (drop 4 bs)), 4 + 4 * n))) (number_at 4 bs 0) x e in
    let n : ℕ = p.0 in
    let end : ℕ = next + (4 + 4 * n) in
    let ts : List ℕ = targets n end (drop 4 bs) in
    let q = none_if (ltb (length bs) (4 + 4 * n)) (operand.Targets ts, 4 + 4 * n) x p.2 in
    let count = is_4 n 0 bs fits p.1 in
    let long : 4 + 4 * n ≤ length bs = ltb-false (length bs) (4 + 4 * n) q.0 in
    let len : length ts ≡ n = length-targets n end (drop 4 bs) in
    let lt : n < 4294967296 = count.fits in
    let number : length ts % 4294967296 ≡ n = omega arith in
    let text : take (4 + 4 * n) bs ≡ little_bytes 4 (length ts % 4294967296) ++ distances (next + (4 + 4 * length ts)) ts =
    take-add 4 (4 * n) bs
    ∙ ap₂ (λ (x y : List ℕ). x ++ y) (count.spelled ∙ ap (little_bytes 4) (sym number))
    (targets_spelled n end (drop 4 bs) (bytes-drop 4 bs fits) (omega (arith, length-drop 4 bs)) ∙ ap (λ (m : ℕ). distances (next + (4 + 4 * m)) ts) (sym len)) in
    subst (Takes InlineSwitch op next bs) q.1 (record {
      is = (omega arith, targets_fit n end (drop 4 bs));
      spelled = text;
      within = long;
    })

-- ---- every operand

pub operand_takes : (form : Inline) (op next : ℕ) (bs : List ℕ) (x : Operand × ℕ) → IsBytes bs → operand_at form op next bs ≡ Some x → Takes form op next bs x
unfolding operand_at operand_bytes IsOperand
operand_takes InlineNone op next bs x fits e =
    subst (Takes InlineNone op next bs) (some_is (operand.None, 0) x e) (record { is = refl; spelled = refl; within = omega arith })
operand_takes (FixedSlot first) op next bs x fits e =
    subst (Takes (FixedSlot first) op next bs) (some_is (operand.Slot (op - first), 0) x e) (record { is = refl; spelled = refl; within = omega arith })
operand_takes (FixedNumber first) op next bs x fits e =
    subst (Takes (FixedNumber first) op next bs) (some_is (operand.Number (pos op -ℤ pos first), 0) x e) (record { is = refl; spelled = refl; within = omega arith })
operand_takes ShortInlineVar op next bs x fits e =
    let p = map_some (λ m. (operand.Slot m, 1)) (number_at 1 bs 0) x e in
    let f = is_1 p.0 0 bs fits p.1 in
    subst (Takes ShortInlineVar op next bs) p.2 (record { is = f.fits; spelled = f.spelled; within = omega (arith, f.within) })
operand_takes InlineVar op next bs x fits e =
    let p = map_some (λ m. (operand.Slot m, 2)) (number_at 2 bs 0) x e in
    let f = is_2 p.0 0 bs fits p.1 in
    let n : p.0 ≡ p.0 % 65536 = omega (arith, f.fits) in
    subst (Takes InlineVar op next bs) p.2 (record { is = f.fits; spelled = f.spelled ∙ ap (little_bytes 2) n; within = omega (arith, f.within) })
operand_takes ShortInlineI op next bs x fits e =
    let p = map_some (λ m. (operand.Number (cast_signed w8 m), 1)) (number_at 1 bs 0) x e in
    let f = is_1 p.0 0 bs fits p.1 in
    let fit = fits_byte p.0 f.fits in
    let back : bits (cast_signed w8 p.0) % 256 ≡ p.0 = byte_bits (cast_signed w8 p.0) fit ∙ of_z-to_z w8 p.0 f.fits in
    let low : p.0 % 256 ≡ p.0 = omega (arith, f.fits) in
    subst (Takes ShortInlineI op next bs) p.2 (record { is = fit; spelled = f.spelled ∙ ap (λ (n : ℕ). n ∷ []) (low ∙ sym back); within = omega (arith, f.within) })
operand_takes InlineI op next bs x fits e =
    let p = map_some (λ m. (operand.Number (cast_signed w32 m), 4)) (number_at 4 bs 0) x e in
    let f = is_4 p.0 0 bs fits p.1 in
    let fit = fits_word p.0 f.fits in
    let back : bits (cast_signed w32 p.0) % 4294967296 ≡ p.0 = word_bits (cast_signed w32 p.0) fit ∙ of_z-to_z w32 p.0 f.fits in
    subst (Takes InlineI op next bs) p.2 (record { is = fit; spelled = f.spelled ∙ ap (little_bytes 4) (sym back); within = omega (arith, f.within) })
operand_takes InlineI8 op next bs x fits e =
    let p = map_some (λ m. (operand.Number (cast_signed w64 m), 8)) (number_at 8 bs 0) x e in
    let f = is_8 p.0 0 bs fits p.1 in
    let back : bits (cast_signed w64 p.0) ≡ p.0 = of_z-to_z w64 p.0 f.fits in
    subst (Takes InlineI8 op next bs) p.2 (record { is = fits_long p.0 f.fits; spelled = f.spelled ∙ ap (little_bytes 8) (sym back); within = omega (arith, f.within) })
operand_takes InlineTok op next bs x fits e =
    let p = map_some (λ m. (operand.Token m, 4)) (number_at 4 bs 0) x e in
    let f = is_4 p.0 0 bs fits p.1 in
    subst (Takes InlineTok op next bs) p.2 (record { is = f.fits; spelled = f.spelled; within = omega (arith, f.within) })
operand_takes ShortInlineBrTarget op next bs x fits e =
    let p = map_some (λ m. (operand.Target (target (next + 1) (extended m)), 1)) (number_at 1 bs 0) x e in
    let f = is_1 p.0 0 bs fits p.1 in
    let g = extended_fits p.0 f.fits in
    let back : distance (next + 1) (target (next + 1) (extended p.0)) ≡ extended p.0 = distance_back (next + 1) (extended p.0) g.0 in
    let low : p.0 % 256 ≡ distance (next + 1) (target (next + 1) (extended p.0)) % 256 =
    (let m : p.0 % 256 ≡ p.0 = omega (arith, f.fits) in m) ∙ sym g.1 ∙ ap (λ (d : ℕ). d % 256) (sym back) in
    subst (Takes ShortInlineBrTarget op next bs) p.2 (record {
      is = (omega arith, ap (λ (d : ℕ). ltb d 128 || leb 4294967168 d) back ∙ g.2);
      spelled = f.spelled ∙ ap (λ (n : ℕ). n ∷ []) low;
      within = omega (arith, f.within);
    })
operand_takes InlineBrTarget op next bs x fits e =
    let p = map_some (λ m. (operand.Target (target (next + 4) m), 4)) (number_at 4 bs 0) x e in
    let f = is_4 p.0 0 bs fits p.1 in
    subst (Takes InlineBrTarget op next bs) p.2 (record {
      is = omega arith;
      spelled = f.spelled ∙ ap (little_bytes 4) (sym (distance_back (next + 4) p.0 f.fits));
      within = omega (arith, f.within);
    })
operand_takes InlineSwitch op next bs x fits e = switch_takes op next bs x fits e
