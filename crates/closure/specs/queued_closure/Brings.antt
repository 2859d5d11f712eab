-- What facts bring: alone, or where the facts of a set are known.
use Rattle.std.specs.Prelude.{ℕ, Bool, ◌⊎◌}

abbrev pub brings_by : (ℕ → ℕ → Type 0) → ((ℕ → Bool) → ℕ → ℕ → Type 0) → (ℕ → Bool) → ℕ → ℕ → Type 0
brings_by alone joined have fact c = alone fact c ⊎ joined have fact c
