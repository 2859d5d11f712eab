-- Lists of which some items go, by a flag each, and the numbers of those that stay.
use Rattle.std.specs.Prelude.{ℕ, zero, suc, ◌+◌, ◌-◌, nat_lt, List, [], ◌∷◌, Bool, true, false, get_or, if◌then◌else◌}

-- the items whose flag is set; a list that is longer than the flags ends with them
unfoldable pub keep : {A : Type 0} → List Bool → List A → List A
keep [] xs = []
keep (b ∷ bs) [] = []
keep (true ∷ bs) (x ∷ xs) = x ∷ keep bs xs
keep (false ∷ bs) (x ∷ xs) = keep bs xs

-- how many of the first n flags are set
unfoldable pub rank : List Bool → ℕ → ℕ
rank bs zero = 0
rank [] (suc n) = 0
rank (true ∷ bs) (suc n) = suc (rank bs n)
rank (false ∷ bs) (suc n) = rank bs n

-- the place of the flag that is set after n others; the flags' end where there is none
unfoldable pub place_of : List Bool → ℕ → ℕ
place_of [] n = 0
place_of (true ∷ bs) zero = 0
place_of (true ∷ bs) (suc n) = suc (place_of bs n)
place_of (false ∷ bs) n = suc (place_of bs n)

-- The new number of an item. There are n items with a flag each, and then c items that all stay. The items that stay come first,
-- then the c. An item that goes, and a number after all items, get numbers after these, so that no two numbers become one.
unfoldable pub new_number : List Bool → ℕ → ℕ → ℕ → ℕ
new_number flags n c m =
    let kept = rank flags n in
    if nat_lt m n then (if get_or flags m false then rank flags m else kept + c + m)
    else if nat_lt m (n + c) then kept + (m - n)
    else kept + m

-- the number whose new number is m
unfoldable pub old_number : List Bool → ℕ → ℕ → ℕ → ℕ
old_number flags n c m =
    let kept = rank flags n in
    if nat_lt m kept then place_of flags m
    else if nat_lt m (kept + c) then n + (m - kept)
    else if nat_lt m (kept + c + n) then m - (kept + c)
    else m - kept
