-- Numbers of at most 12 decimal digits.
use Rattle.std.proofs.Common.{◌≡◌, ℕ, suc, ◌+◌, ◌-◌, ◌*◌, ◌^◌, ◌<◌, ◌≤◌, Bool, true, false, List, ◌∷◌, refl, arith, lit<}
use Rattle.std.specs.Prelude.{◌&&◌, nat_le}
use Rattle.std.specs.List.{list_all}
use Rattle.std.proofs.Math.Nat.{pow-le-pow_right, pow-suc}
use Rattle.std.proofs.lemmas.Bool.{leb-true}
use Rattle.exec_command.specs.Words.{is_digit}

both : (a b : Bool) → (a && b) ≡ true → (a ≡ true) × (b ≡ true)
both true b e = (refl, e)
both false b e = absurd cc

pub first_digit : (d : ℕ) (ds : List ℕ) → list_all is_digit (d ∷ ds) ≡ true → (is_digit d ≡ true) × (list_all is_digit ds ≡ true)
first_digit d ds e = both (is_digit d) (list_all is_digit ds) e

pub digit_range : (d : ℕ) → is_digit d ≡ true → (48 ≤ d) × (d ≤ 57)
digit_range d e = let parts = both (nat_le 48 d) (nat_le d 57) e in (leb-true 48 d parts.0, leb-true d 57 parts.1)

pub small_before : (i v : ℕ) → i < 12 → v < 10 ^ i → v ≤ 99999999999
small_before i v short below = let most : 10 ^ i ≤ 10 ^ 11 = pow-le-pow_right {n = 10} (lit< tt) {i = i} {j = 11} (omega arith) in omega (arith, most)

pub next_bound : (i v d : ℕ) → v < 10 ^ i → is_digit d ≡ true → v * 10 + (d - 48) < 10 ^ (i + 1)
next_bound i v d below digit =
    let one : i + 1 ≡ suc i = omega arith in
    let range = digit_range d digit in
    rw (one, pow-suc 10 i) (omega arith)

pub ruleset digits = (small_before, next_bound, first_digit)
