-- Which rows a run holds.
use Rattle.std.proofs.Common.{◌≡◌, ℕ, suc, ◌-◌, ◌<◌, ◌≤◌, min, max, nat_le, nat_lt, ◌&&◌, arith}
use Rattle.std.specs.Bool.{Decides}
use Rattle.std.proofs.lemmas.Bool.{leb-true, le-leb, ltb-true, lt-ltb}
use Rattle.std.proofs.lemmas.Bool.Decides.{same_from_decides, Decides-like, Decides-and}

decides_le : (a b : ℕ) → Decides (nat_le a b) (a ≤ b)
decides_le a b = (leb-true a b, le-leb a b)

decides_lt : (a b : ℕ) → Decides (nat_lt a b) (a < b)
decides_lt a b = (ltb-true a b, lt-ltb a b)

-- a place below `len` that a walk over the run has passed, when it has come to `at`
pub passed_run : (first end at len k : ℕ) → k < len → first - 1 ≤ at → min (end - 1) len ≤ at → at ≤ max (first - 1) (min (end - 1) len)
    → (nat_le (first - 1) k && nat_lt k at) ≡ (nat_le first (suc k) && nat_lt (suc k) end)
passed_run first end at len k lt near le far =
    same_from_decides (nat_le (first - 1) k && nat_lt k at) (nat_le first (suc k) && nat_lt (suc k) end)
    (Decides-like _ (λ p. let a = p.0 in let b = p.1 in (omega arith, omega arith)) (λ p. let a = p.0 in let b = p.1 in (omega arith, omega arith))
    (Decides-and (nat_le (first - 1) k) (nat_lt k at) (decides_le (first - 1) k) (decides_lt k at)))
    (Decides-and (nat_le first (suc k)) (nat_lt (suc k) end) (decides_le first (suc k)) (decides_lt (suc k) end))
