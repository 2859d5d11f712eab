-- A table of a function's values at the numbers from 0 on.
use Rattle.std.specs.Prelude.{◌≡◌, ℕ, List, Option, Some, None, slice_get}

-- the table's value at a number, and past the table's end the function's
abbrev pub near_or : Option (Option ℕ) → Option ℕ → Option ℕ
near_or (Some found) far = found
near_or None far = far

abbrev pub AgreesWith : (ℕ → Option ℕ) → List (Option ℕ) → Type 0
AgreesWith far near = (key : ℕ) → near_or (slice_get near key) (far key) ≡ far key
