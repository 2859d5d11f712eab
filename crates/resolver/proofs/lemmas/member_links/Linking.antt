-- Links put at the end, one for each row.
use Rattle.std.proofs.Common.{◌≡◌, ℕ, ◌+◌, List, [], ◌∷◌, ◌++◌, map, sym, ap, ◌∙◌, append_assoc, zero-add}
use Rattle.std.specs.List.{range_with_len}
use Rattle.std.proofs.lemmas.List.FromFn.{map-range_with_len_more}

pub one_more : {A : Type 0} (f : ℕ → A) (before links after : List A) (k : ℕ) (link : A) → after ≡ links ++ link ∷ [] → link ≡ f k
    → links ≡ before ++ map f (range_with_len 0 k) → after ≡ before ++ map f (range_with_len 0 (k + 1))
one_more f before links after k link put is h =
    put ∙ (λ i. h i ++ is i ∷ []) ∙ append_assoc before (map f (range_with_len 0 k)) (f k ∷ []) ∙ ap (λ l. before ++ l) (sym (map-range_with_len_more f 0 k k (zero-add k)))
