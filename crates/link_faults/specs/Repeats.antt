-- The first list that was met before, with a test for those that were met.
use Rattle.std.specs.Prelude.{ℕ, suc, List, [], ◌∷◌, Bool, true, Option, Some, None, bytes_eq, if◌then◌else◌}

-- the place of the first list that was met before; None is skipped
abbrev pub repeat_by : (List ℕ → Bool) → ℕ → List (Option (List ℕ)) → Option ℕ
repeat_by met i [] = None
repeat_by met i (None ∷ codes) = repeat_by met (suc i) codes
repeat_by met i (Some code ∷ codes) = if met code then Some i else repeat_by (λ other. if bytes_eq code other then true else met other) (suc i) codes
