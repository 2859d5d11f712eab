-- The rows and columns of tables, and the numbers whose tokens fit 32 bits.
use Rattle.std.specs.Prelude.{◌≡◌, ℕ, ◌/◌, ◌^◌, ◌<◌, ◌≤◌, true, nat_lt, List, length}
use Rattle.il_base.specs.declared.cli_format.column.Column.{Column}
use Rattle.il_base.specs.declared.cli_format.column.Column.TheVariants.{Index, IndexOrNone, Coded, CodedOrNone}
use Rattle.il_base.specs.cli_format.Columns.{columns_of}
use Rattle.il_base.specs.cli_format.Coded.{tag_bits_of}
use Rattle.rules.specs.record_format.Cells.{count_of}

-- a table has a row, counted from 1
pub record HasRow (m : List ℕ) (t r : ℕ) : Type 0 where
  pub table : t < 45
  pub first : 1 ≤ r
  pub last : r ≤ count_of m t

-- a table has a column, counted from 0
abbrev pub HasColumn : ℕ → ℕ → Type 0
HasColumn t c = nat_lt c (length (columns_of t)) ≡ true

-- the row that a number names has 24 bits
abbrev pub FitsToken : Column → ℕ → Type 0
FitsToken (Index t) n = n < 16777216
FitsToken (IndexOrNone t) n = n < 16777216
FitsToken (Coded index) n = n / 2 ^ tag_bits_of index < 16777216
FitsToken (CodedOrNone index) n = n / 2 ^ tag_bits_of index < 16777216
FitsToken _ n = Unit {0}
