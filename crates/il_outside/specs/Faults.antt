-- Counts of faults.
use Rattle.std.specs.Prelude.{◌≡◌, ℕ, ◌+◌, ◌-◌, ◌^◌, min}

-- the number after one more call: at 2^64 - 1 it stays
abbrev pub raised : ℕ → ℕ
raised n = min (n + 1) (2 ^ 64 - 1)

-- A count rose by one: one call failed. That it stays at its last value is to rise too.
abbrev pub Rose : ℕ → ℕ → Type 0
Rose old new = new ≡ raised old
