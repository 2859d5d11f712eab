-- Flags for the numbers below a bound.
use Rattle.std.specs.Prelude.{◌≡◌, ℕ, Bool, map}
use Rattle.std.specs.List.{range_with_len}
use Rattle.il_base.specs.declared.bits.Bits.{Bits}

-- the flag of each number below the bound is what the test says of it, and there are no others
abbrev pub HasFlags : ℕ → (ℕ → Bool) → Bits → Type 0
HasFlags count test bits = bits.flags ≡ map test (range_with_len 0 count)
