-- How many rows of Param a method has.
use Rattle.std.proofs.Common.{◌≡◌, ℕ, ◌-◌, min, List, take, drop, length, length-drop, ap, ◌∙◌}
use Rattle.std.proofs.lemmas.List.{length-take}

pub as_long : {A : Type 0} (first end : ℕ) (rows : List A) → length (take (end - first) (drop (first - 1) rows)) ≡ min (end - first) (length rows - (first - 1))
as_long first end rows = length-take (end - first) (drop (first - 1) rows) ∙ ap (min (end - first)) (length-drop (first - 1) rows)
