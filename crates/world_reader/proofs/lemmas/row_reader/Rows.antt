-- One row more.
use Rattle.std.proofs.Common.{◌≡◌, ℕ, suc, ◌+◌, [], ◌∷◌, ◌++◌, refl, arith}
use Rattle.rules.specs.record_format.Cells.{first_rows}

pub rows_none : {A : Type 0} (row : ℕ → A) → first_rows row 0 ≡ []
unfolding first_rows
rows_none row = refl

pub rows_more : {A : Type 0} (row : ℕ → A) (n : ℕ) → first_rows row (n + 1) ≡ first_rows row n ++ row (n + 1) ∷ []
unfolding first_rows
rows_more row n = let e : n + 1 ≡ suc n = omega arith in rw e refl

pub ruleset rowing = (rows_none, rows_more)
