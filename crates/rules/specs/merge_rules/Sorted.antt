-- Rows in the order of a key, those of one key in the order in which they were (II.22: sorted tables).
use Rattle.std.specs.Prelude.{ℕ, List, [], ◌∷◌, nat_lt, if◌then◌else◌}

-- a list with a row put before the first one that has a greater key
abbrev pub put : {A : Type 0} → (A → ℕ) → A → List A → List A
put key x [] = x ∷ []
put key x (y ∷ ys) = if nat_lt (key x) (key y) then x ∷ y ∷ ys else y ∷ put key x ys

unfoldable pub put_all : {A : Type 0} → (A → ℕ) → List A → List A → List A
put_all key sorted [] = sorted
put_all key sorted (x ∷ xs) = put_all key (put key x sorted) xs

abbrev pub by_key : {A : Type 0} → (A → ℕ) → List A → List A
by_key key xs = put_all key [] xs
