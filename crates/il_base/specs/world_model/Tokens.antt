-- Metadata tokens (II.22): the table's number in the high byte, and the row from 1 below it.
use Rattle.std.specs.Prelude.{ℕ, zero, suc, ◌+◌, ◌*◌, ◌/◌, ◌%◌, Option, Some, None, ◌==◌, if◌then◌else◌}

abbrev pub token_of : ℕ → ℕ → ℕ
token_of table row = table * 16777216 + row

abbrev pub table_of : ℕ → ℕ
table_of token = token / 16777216

abbrev pub row_of : ℕ → ℕ
row_of token = token % 16777216

-- the row's place in its table's list, from 0; a row 0 names nothing
abbrev pub index_from : ℕ → Option ℕ
index_from zero = None
index_from (suc k) = Some k

abbrev pub row_index : ℕ → Option ℕ
row_index token = index_from (row_of token)

-- the place of the row that a token of this table names, None for a token of another table
abbrev pub index_in : ℕ → ℕ → Option ℕ
index_in table token = if table_of token == table then row_index token else None
