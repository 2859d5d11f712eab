-- The values of a row in its columns, and the cells that these become. A token is its row's number where a column is of one table,
-- and a coded index where it is of several (II.24.2.6).
use Rattle.std.specs.Prelude.{ℕ, suc, List, [], ◌∷◌, map}
use Rattle.il_base.specs.declared.cli_format.column.Column.{Column}
use Rattle.il_base.specs.declared.cli_format.column.Column.TheVariants.{Index, IndexOrNone, Coded, CodedOrNone}
use Rattle.il_base.specs.cli_format.Columns.{columns_of}
use Rattle.il_base.specs.cli_format.Tokens.{coded_of}
use Rattle.il_base.specs.world_model.Tokens.{row_of}
use Rattle.rules.specs.declared.file_layout.cell.Cell.{Cell}
use Rattle.rules.specs.declared.file_layout.cell.Cell.TheVariants as cell
use Rattle.rules.specs.file_layout.Cells.{CellTables}
use Rattle.rules.specs.declared.record_layout.value.Value.{Value}
use Rattle.rules.specs.declared.record_layout.value.Value.TheVariants as value

-- the number of a token in a column; the row is in its three low bytes
abbrev pub token_number : Column → ℕ → ℕ
token_number (Index t) token = row_of token
token_number (IndexOrNone t) token = row_of token
token_number (Coded index) token = coded_of index token
token_number (CodedOrNone index) token = coded_of index token
token_number _ token = token

abbrev pub cell_in : Column → Value → Cell
cell_in c (value.Number n) = cell.Number n
cell_in c (value.Text t) = cell.Text t
cell_in c (value.Blob b) = cell.Blob b
cell_in c (value.Guid g) = cell.Guid g
cell_in c (value.Token token) = cell.Number (token_number c token)

-- the cells of a row, by the columns of its table
unfoldable pub row_cells : List Column → List Value → List Cell
row_cells [] values = []
row_cells (c ∷ cs) [] = []
row_cells (c ∷ cs) (v ∷ vs) = cell_in c v ∷ row_cells cs vs

-- tables by their numbers, from 0; a row is its values
abbrev pub ValueTables : Type 0
ValueTables = List (List (List Value))

-- the cells of tables, the first of which has this number
unfoldable pub tables_cells : ℕ → ValueTables → CellTables
tables_cells t [] = []
tables_cells t (rows ∷ more) = map (row_cells (columns_of t)) rows ∷ tables_cells (suc t) more
