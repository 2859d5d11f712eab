-- The rows of a run among rows in order.
use Rattle.std.specs.Prelude.{◌≡◌, ℕ, ◌+◌, ◌-◌, ◌<◌, ◌≤◌, List, [], ◌∷◌, length, drop, map, nat_lt, slice_index_or, if◌then◌else◌}
use Rattle.rules.specs.declared.link_rules.row_at.RowAt.{RowAt}
use Rattle.rules.specs.link_rules.Types.{at_row}
use Rattle.type_tables.specs.declared.member_search.owners.Run.{Run}

-- those up to the first that isn't before an end
abbrev pub before_end : ℕ → List ℕ → List ℕ
before_end end [] = []
before_end end (k ∷ ks) = if nat_lt k end then k ∷ before_end end ks else []

-- where rows go over from those before a start to those from it on
pub record GoesOver (rows : List ℕ) (start n : ℕ) : Type 0 where
  pub within : n ≤ length rows
  pub before : (k : ℕ) → k < n → slice_index_or rows k 0 < start
  pub behind : (k : ℕ) → n ≤ k → k < length rows → start ≤ slice_index_or rows k 0

-- the rows of a run, which begins and ends at rows from 1
pub record AreInRun (asm : ℕ) (rows : List ℕ) (run : Run) (found : List RowAt) : Type 0 where
  pub n : ℕ
  pub over : GoesOver rows (run.first - 1) n
  pub are : found ≡ map (at_row asm) (before_end (run.first - 1 + (run.end - run.first)) (drop n rows))
