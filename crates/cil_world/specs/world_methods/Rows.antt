-- What is made of the rows of a table of all assemblies, one after the other.
use Rattle.std.specs.Prelude.{ℕ, ◌+◌, List, [], ◌∷◌, ◌++◌, map, Option, None, slice_get, unwrap_or}
use Rattle.std.specs.List.{range_with_len}
use Rattle.il_base.specs.declared.world_model.record.AsmRec.{AsmRec}
use Rattle.rules.specs.declared.link_rules.row_at.RowAt.{RowAt}
use Rattle.rules.specs.link_rules.Types.{at_row}

-- of the first n rows of the assembly a
abbrev pub rows_of : {A : Type 0} → (RowAt → A) → ℕ → ℕ → List A
rows_of f a n = map (λ k. f (at_row a k)) (range_with_len 0 n)

-- of all rows of these assemblies, the first of which has the number a
abbrev pub rows_from : {A : Type 0} → (AsmRec → ℕ) → (RowAt → A) → ℕ → List AsmRec → List A
rows_from count f a [] = []
rows_from count f a (rec ∷ recs) = rows_of f a (count rec) ++ rows_from count f (a + 1) recs

-- what there is in a place
abbrev pub in_place : {A : Type 0} → List (Option A) → ℕ → Option A
in_place rows n = unwrap_or (slice_get rows n) None
