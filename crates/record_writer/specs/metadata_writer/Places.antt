-- Where items stand in a heap.
use Rattle.std.specs.Prelude.{ℕ, suc, ◌+◌, List, [], ◌∷◌, bytes_eq, length, if◌then◌else◌}

-- which of the items one is, from 0; how many there are, where it isn't among them
abbrev pub index_among : List (List ℕ) → List ℕ → ℕ
index_among [] x = 0
index_among (y ∷ ys) x = if bytes_eq y x then 0 else suc (index_among ys x)

-- where each item begins among items that are written one after another from a place on, and where the last one ends
abbrev pub starts_of : (List ℕ → List ℕ) → ℕ → List (List ℕ) → List ℕ
starts_of written at [] = at ∷ []
starts_of written at (y ∷ ys) = at ∷ starts_of written (at + length (written y)) ys
