-- Rows in their order as numbers.
use Rattle.std.specs.Prelude.{◌≡◌, ℕ, ◌+◌, ◌*◌, ◌<◌, ◌^◌, List, map}
use Rattle.std.specs.List.{All}
use Rattle.std.specs.List.Sorted.{IsNonDecreasing, IsPermutation}
use Rattle.rules.specs.declared.link_rules.row_at.RowAt.{RowAt}

abbrev pub order_of : RowAt → ℕ
order_of at = at.asm * 4294967296 + at.row

abbrev pub Fits : RowAt → Type 0
Fits at = at.row < 2 ^ 32

-- the numbers of rows, in the order of the rows
pub record AreOrders (rows : List RowAt) (orders : List ℕ) : Type 0 where
  pub are : orders ≡ map order_of rows
  pub fit : All Fits rows

-- the smallest first
pub record AreRanks (rows : List RowAt) (ranks : List ℕ) : Type 0 where
  pub fit : All Fits rows
  pub rising : IsNonDecreasing ranks
  pub same : IsPermutation (map order_of rows) ranks
