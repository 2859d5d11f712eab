-- The tables (II.24.2.6). `ts` are the bytes of the `#~` stream; tables are named by their numbers, rows are counted
-- from 1, columns from 0, and places from the start of the stream.
use Rattle.std.specs.Prelude.{ℕ, zero, suc, ◌+◌, ◌-◌, ◌*◌, ◌/◌, ◌%◌, ◌^◌, Bool, true, false, ◌==◌, ◌&&◌, nat_le, nat_lt, bit_and, List, [], ◌∷◌, length, take, get_or, slice_get, unwrap_or, Option, Some, None, if◌then◌else◌}
use Rattle.std.specs.Option.{option_map}
use Rattle.il_base.specs.declared.cli_format.column.Column.{Column}
use Rattle.il_base.specs.declared.cli_format.column.Column.TheVariants.{U8, U16, U32, Text, Blob, Guid, Index, IndexOrNone, Run, Coded, CodedOrNone}
use Rattle.il_base.specs.declared.cli_format.column.CodedIndex.{CodedIndex}
use Rattle.il_base.specs.cli_format.Demand.{number}
use Rattle.il_base.specs.cli_format.Columns.{columns_of}
use Rattle.il_base.specs.cli_format.Coded.{targets_of, tag_bits_of, first_tag_of}

-- ---- rows

-- HeapSizes
unfoldable pub heap_sizes : List ℕ → ℕ
heap_sizes ts = number 1 ts 6

-- Valid: of its 64 bits one is set for each table that is present
unfoldable pub valid_of : List ℕ → ℕ
valid_of ts = number 8 ts 8

unfoldable pub is_present : List ℕ → ℕ → Bool
is_present ts t = nat_lt t 64 && (bit_and (valid_of ts / 2 ^ t) 1 == 1)

-- how many tables before a table are present
unfoldable pub present_before : List ℕ → ℕ → ℕ
present_before ts zero = 0
present_before ts (suc t) = present_before ts t + (if is_present ts t then 1 else 0)

-- the place of a present table's row count: there is one for each present table, in order
unfoldable pub count_place : List ℕ → ℕ → ℕ
count_place ts t = 24 + 4 * present_before ts t

-- the number of rows of a table
unfoldable pub rows_of : List ℕ → ℕ → ℕ
rows_of ts t = if is_present ts t then number 4 ts (count_place ts t) else 0

-- ---- widths of columns, in bytes

-- an index into a heap has 4 bytes where its bit in HeapSizes is set
unfoldable pub heap_width : List ℕ → ℕ → ℕ
heap_width ts bit = if bit_and (heap_sizes ts) bit == 0 then 2 else 4

-- an index into a table has 2 bytes where the table has fewer rows than 2^16
unfoldable pub index_width : List ℕ → ℕ → ℕ
index_width ts t = if nat_lt (rows_of ts t) 0x10000 then 2 else 4

-- each of the tables has fewer rows than a limit
unfoldable pub fewer : List ℕ → ℕ → List ℕ → Bool
fewer ts limit [] = true
fewer ts limit (t ∷ others) = nat_lt (rows_of ts t) limit && fewer ts limit others

-- a coded index has 2 bytes where the row of each of its tables fits beside the tag
unfoldable pub coded_width : List ℕ → CodedIndex → ℕ
coded_width ts index = if fewer ts (2 ^ (16 - tag_bits_of index)) (targets_of index) then 2 else 4

unfoldable pub width : List ℕ → Column → ℕ
width ts U8 = 1
width ts U16 = 2
width ts U32 = 4
width ts Text = heap_width ts 1
width ts Guid = heap_width ts 2
width ts Blob = heap_width ts 4
width ts (Index t) = index_width ts t
width ts (IndexOrNone t) = index_width ts t
width ts (Run t) = index_width ts t
width ts (Coded index) = coded_width ts index
width ts (CodedOrNone index) = coded_width ts index

unfoldable pub widths : List ℕ → List Column → ℕ
widths ts [] = 0
widths ts (c ∷ cs) = width ts c + widths ts cs

unfoldable pub row_width : List ℕ → ℕ → ℕ
row_width ts t = widths ts (columns_of t)

-- ---- places of tables, rows and cells

-- the tables stand after the row counts, one after the other
unfoldable pub table_place : List ℕ → ℕ → ℕ
table_place ts zero = count_place ts 64
table_place ts (suc t) = table_place ts t + rows_of ts t * row_width ts t

-- the place of a row: the table's start, plus the row's number less one times the row's width
unfoldable pub row_place : List ℕ → ℕ → ℕ → ℕ
row_place ts t r = table_place ts t + (r - 1) * row_width ts t

-- the place of a cell: the row's place, plus the widths of the columns before
unfoldable pub cell_place : List ℕ → ℕ → ℕ → ℕ → ℕ
cell_place ts t r c = row_place ts t r + widths ts (take c (columns_of t))

unfoldable pub column_of : ℕ → ℕ → Column
column_of t c = get_or (columns_of t) c U8

-- the number in a cell
unfoldable pub cell_number : List ℕ → ℕ → ℕ → ℕ → ℕ
cell_number ts t r c = number (width ts (column_of t c)) ts (cell_place ts t r c)

unfoldable pub has_cell : List ℕ → ℕ → ℕ → ℕ → Bool
has_cell ts t r c = nat_le 1 r && nat_le r (rows_of ts t) && nat_lt c (length (columns_of t))

-- the number in a cell, where the table has that row and that column
unfoldable pub cell_of : List ℕ → ℕ → ℕ → ℕ → Option ℕ
cell_of ts t r c = if has_cell ts t r c then Some (cell_number ts t r c) else None

-- ---- what a coded index names

-- the table that a tag names
unfoldable pub target_of : CodedIndex → ℕ → Option ℕ
target_of index tag = if nat_le (first_tag_of index) tag then slice_get (targets_of index) (tag - first_tag_of index) else None

-- the table has a row of this number: rows go from 1 to the table's number of rows
unfoldable pub names_row : List ℕ → ℕ → ℕ → Bool
names_row ts t n = nat_le 1 n && nat_le n (rows_of ts t)

-- a coded index names a row: the tag in its low bits names a table, and the rest a row of that table
unfoldable pub names_coded : List ℕ → CodedIndex → ℕ → Bool
names_coded ts index n =
    unwrap_or (option_map (λ t. names_row ts t (n / 2 ^ tag_bits_of index)) (target_of index (n % 2 ^ tag_bits_of index))) false
