-- Texts that are all there.
use Rattle.std.proofs.Common.{List, ◌++◌, Option, ℕ}
use Rattle.std.specs.Option.{option_map}

-- those found, and the others
abbrev pub with_rest : List (List ℕ) → Option (List (List ℕ)) → Option (List (List ℕ))
with_rest found rest = option_map (λ ys. found ++ ys) rest
