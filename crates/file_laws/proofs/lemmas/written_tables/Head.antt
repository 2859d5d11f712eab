-- Valid: the bits of the tables that have rows (II.24.2.6).
use Rattle.std.proofs.Common.{◌≡◌, ℕ, zero, suc, ◌+◌, ◌*◌, ◌/◌, ◌%◌, ◌^◌, ◌<◌, ◌≤◌, not, cond, eqb, List, [], ◌∷◌, length, refl, ap, ◌∙◌, arith, inl, inr}
use Rattle.std.specs.Prelude.{get_or, bit_and}
use Rattle.std.specs.Int.{bit_at}
use Rattle.std.proofs.Math.Nat.{pow-succ'}
use Rattle.std.proofs.lemmas.Bool.{cases_lt, lt-ltb, le-ltb}
use Rattle.std.proofs.lemmas.List.{get_or_past}
use Rattle.std.proofs.lemmas.Nat.Bits.{bit_at_lowest, bit_at-suc, bit_at-zero, shr_and_one}
use Rattle.il_base.specs.cli_format.Tables.{valid_of, is_present}
use Rattle.rules.specs.file_layout.TableStream.{Row, Tables, is_empty, valid_bits}

abbrev pub has_rows : List Row → ℕ
has_rows [] = 0
has_rows (r ∷ rs) = 1

-- the same number, without powers
abbrev pub bits_of : Tables → ℕ
bits_of [] = 0
bits_of (rows ∷ more) = has_rows rows + 2 * bits_of more

has_is : (rows : List Row) (n : ℕ) → cond (is_empty rows) 0 n ≡ has_rows rows * n
has_is [] n = omega arith
has_is (r ∷ rs) n = omega arith

valid_from : (t : ℕ) (tables : Tables) → valid_bits t tables ≡ bits_of tables * 2 ^ t
unfolding valid_bits
valid_from t [] = omega arith
valid_from t (rows ∷ more) =
    let rest : valid_bits (suc t) more ≡ bits_of more * 2 ^ suc t = valid_from (suc t) more in
    let twice : 2 ^ suc t ≡ 2 * 2 ^ t = pow-succ' 2 t in
    rw (has_is rows (2 ^ t), rest, twice) (omega arith)

pub valid_is : (tables : Tables) → valid_bits 0 tables ≡ bits_of tables
valid_is tables = omega (arith, valid_from 0 tables)

pub bits_below : (tables : Tables) → bits_of tables < 2 ^ length tables
bits_below [] = omega arith
bits_below (rows ∷ more) =
    let rest : bits_of more < 2 ^ length more = bits_below more in
    let twice : 2 ^ suc (length more) ≡ 2 * 2 ^ length more = pow-succ' 2 (length more) in
    let one : has_rows rows ≤ 1 = at_most rows in
    omega (arith, rest, twice, one)
  where
    at_most : (rs : List Row) → has_rows rs ≤ 1
    at_most [] = omega arith
    at_most (r ∷ rs) = omega arith

lowest : (rows : List Row) (n : ℕ) → ((has_rows rows + 2 * n) % 2 ≡ has_rows rows) × ((has_rows rows + 2 * n) / 2 ≡ n)
lowest [] n = (omega arith, omega arith)
lowest (r ∷ rs) n = (omega arith, omega arith)

-- the bit of a table
pub bit_of : (tables : Tables) (t : ℕ) → bit_at (bits_of tables) t ≡ has_rows (get_or tables t [])
bit_of [] t = bit_at-zero t
bit_of (rows ∷ more) zero = bit_at_lowest (has_rows rows + 2 * bits_of more) ∙ (lowest rows (bits_of more)).0
bit_of (rows ∷ more) (suc t) =
    bit_at-suc (has_rows rows + 2 * bits_of more) t ∙ ap (λ (n : ℕ). bit_at n t) (lowest rows (bits_of more)).1 ∙ bit_of more t

tested : (rows : List Row) → eqb (has_rows rows) 1 ≡ not (is_empty rows)
tested [] = refl
tested (r ∷ rs) = refl

-- a table is present where it has rows
pub present_is : (ts : List ℕ) (tables : Tables) → valid_of ts ≡ valid_bits 0 tables → length tables ≡ 45 → (t : ℕ) → is_present ts t ≡ not (is_empty (get_or tables t []))
unfolding is_present
present_is ts tables valid count t =
    elim (cases_lt t 64) [
      | inl below ↦
          let bit : bit_and (valid_of ts / 2 ^ t) 1 ≡ has_rows (get_or tables t []) =
          ap (λ (n : ℕ). bit_and (n / 2 ^ t) 1) (valid ∙ valid_is tables) ∙ shr_and_one (bits_of tables) t ∙ bit_of tables t in
          rw (lt-ltb t 64 below, bit) (tested (get_or tables t []))
      | inr above ↦
          let none : get_or tables t [] ≡ [] = get_or_past tables t [] (omega (arith, count)) in
          rw (le-ltb t 64 above, none) refl
    ]
