-- Units of UTF-16, one after the other.
use Rattle.std.proofs.Common.{◌≡◌, ℕ, ◌-◌, ◌+◌, ◌*◌, ◌/◌, ◌≤◌, ◌<◌, List, [], ◌∷◌, ◌++◌, length, get_or, drop, drop-cons, length-drop, add-one, append_assoc, refl, sym, ap, ◌∙◌, arith}
use Rattle.std.proofs.lemmas.List.{append-nil}
use Rattle.rules.specs.record_format.Texts.{units_of}

drop_next : (xs : List ℕ) (i : ℕ) → i < length xs → drop i xs ≡ get_or xs i 0 ∷ drop (i + 1) xs
drop_next xs i lt = rw add-one (drop-cons xs i 0 lt)

units_short : (xs : List ℕ) → length xs < 2 → units_of xs ≡ []
unfolding units_of
units_short [] lt = refl
units_short (a ∷ []) lt = refl
units_short (a ∷ b ∷ xs) lt = absurd (omega arith)

pub units_on : (front item : List ℕ) (i : ℕ) (total : List ℕ) → i < length item / 2 → front ++ units_of (drop (2 * i) item) ≡ total
    → (front ++ (get_or item (2 * i) 0 + 256 * get_or item (2 * i + 1) 0) ∷ []) ++ units_of (drop (2 * (i + 1)) item) ≡ total
unfolding units_of
units_on front item i total lt so_far =
    let low : 2 * i < length item = omega arith in
    let high : 2 * i + 1 < length item = omega arith in
    let e : 2 * i + 1 + 1 ≡ 2 * (i + 1) = omega arith in
    let d : drop (2 * i) item ≡ get_or item (2 * i) 0 ∷ get_or item (2 * i + 1) 0 ∷ drop (2 * (i + 1)) item
    = drop_next item (2 * i) low ∙ ap (λ (xs : List ℕ). get_or item (2 * i) 0 ∷ xs) (drop_next item (2 * i + 1) high ∙ ap (λ (n : ℕ). get_or item (2 * i + 1) 0 ∷ drop n item) e) in
    let one : front ++ units_of (drop (2 * i) item) ≡ (front ++ (get_or item (2 * i) 0 + 256 * get_or item (2 * i + 1) 0) ∷ []) ++ units_of (drop (2 * (i + 1)) item) = rw d (simp append_assoc) in
    sym one ∙ so_far

pub units_done : (front item : List ℕ) (i : ℕ) (total : List ℕ) → length item / 2 ≤ i → front ++ units_of (drop (2 * i) item) ≡ total → front ≡ total
units_done front item i total le so_far =
    let len : length (drop (2 * i) item) ≡ length item - 2 * i = length-drop (2 * i) item in
    let few : units_of (drop (2 * i) item) ≡ [] = units_short (drop (2 * i) item) (omega arith) in
    let one : front ++ units_of (drop (2 * i) item) ≡ front = rw few (append-nil front) in
    sym one ∙ so_far
