-- Items that are written once, however many cells name them.
use Rattle.std.specs.Prelude.{ℕ, ◌+◌, List, [], ◌∷◌, ◌++◌, bytes_eq, length, if◌then◌else◌}
use Rattle.std.specs.List.{list_any}

-- a list with an item at its end, where it isn't in the list yet
unfoldable pub added : List (List ℕ) → List ℕ → List (List ℕ)
added xs x = if list_any (bytes_eq x) xs then xs else xs ++ x ∷ []

unfoldable pub added_all : List (List ℕ) → List (List ℕ) → List (List ℕ)
added_all xs [] = xs
added_all xs (y ∷ ys) = added_all (added xs y) ys

-- the items of a list, each once, in the order in which they first come
abbrev pub each_once : List (List ℕ) → List (List ℕ)
each_once xs = added_all [] xs

-- the place of an item among items that are written one after another from a place on, each in its written form; the place after
-- them all where it isn't there
unfoldable pub place_among : (List ℕ → List ℕ) → ℕ → List (List ℕ) → List ℕ → ℕ
place_among written at [] x = at
place_among written at (y ∷ ys) x = if bytes_eq y x then at else place_among written (at + length (written y)) ys x
