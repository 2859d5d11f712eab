-- The `#~` stream (II.24.2.6). Tables stand in a list by their numbers, from 0; a row is the numbers in its cells.
use Rattle.std.specs.Prelude.{ℕ, suc, ◌+◌, ◌-◌, ◌^◌, Bool, true, false, ◌==◌, ◌&&◌, nat_lt, bit_and, List, [], ◌∷◌, ◌++◌, length, get_or, if◌then◌else◌}
use Rattle.std.specs.List.{flat_map}
use Rattle.byteorder.specs.Endian.{little_bytes}
use Rattle.il_base.specs.declared.cli_format.column.Column.{Column}
use Rattle.il_base.specs.declared.cli_format.column.Column.TheVariants.{U8, U16, U32, Text, Blob, Guid, Index, IndexOrNone, Run, Coded, CodedOrNone}
use Rattle.il_base.specs.declared.cli_format.column.CodedIndex.{CodedIndex}
use Rattle.il_base.specs.cli_format.Columns.{columns_of}
use Rattle.il_base.specs.cli_format.Coded.{targets_of, tag_bits_of}
use Rattle.rules.specs.file_layout.Bytes.{word, padded}

abbrev pub Row : Type 0
Row = List ℕ

abbrev pub Tables : Type 0
Tables = List (List Row)

-- how many rows a table has
abbrev pub rows_in : Tables → ℕ → ℕ
rows_in tables t = length (get_or tables t [])

-- ---- widths of columns, in bytes

abbrev pub heap_width : ℕ → ℕ → ℕ
heap_width sizes bit = if bit_and sizes bit == 0 then 2 else 4

abbrev pub index_width : Tables → ℕ → ℕ
index_width tables t = if nat_lt (rows_in tables t) 0x10000 then 2 else 4

-- each of the tables has fewer rows than a limit
unfoldable pub fewer : Tables → ℕ → List ℕ → Bool
fewer tables limit [] = true
fewer tables limit (t ∷ others) = nat_lt (rows_in tables t) limit && fewer tables limit others

abbrev pub coded_width : Tables → CodedIndex → ℕ
coded_width tables index = if fewer tables (2 ^ (16 - tag_bits_of index)) (targets_of index) then 2 else 4

-- the width of a column, by HeapSizes and the tables' rows
unfoldable pub width : ℕ → Tables → Column → ℕ
width sizes tables U8 = 1
width sizes tables U16 = 2
width sizes tables U32 = 4
width sizes tables Text = heap_width sizes 1
width sizes tables Guid = heap_width sizes 2
width sizes tables Blob = heap_width sizes 4
width sizes tables (Index t) = index_width tables t
width sizes tables (IndexOrNone t) = index_width tables t
width sizes tables (Run t) = index_width tables t
width sizes tables (Coded index) = coded_width tables index
width sizes tables (CodedOrNone index) = coded_width tables index

-- ---- rows

unfoldable pub row_bytes : ℕ → Tables → List Column → Row → List ℕ
row_bytes sizes tables [] row = []
row_bytes sizes tables (c ∷ cs) [] = []
row_bytes sizes tables (c ∷ cs) (n ∷ ns) = little_bytes (width sizes tables c) n ++ row_bytes sizes tables cs ns

abbrev pub table_bytes : ℕ → Tables → ℕ → List Row → List ℕ
table_bytes sizes tables t rows = flat_map (row_bytes sizes tables (columns_of t)) rows

-- the tables of a list, the first of which has this number
unfoldable pub tables_bytes : ℕ → Tables → ℕ → Tables → List ℕ
tables_bytes sizes tables t [] = []
tables_bytes sizes tables t (rows ∷ more) = table_bytes sizes tables t rows ++ tables_bytes sizes tables (suc t) more

-- ---- the head

abbrev pub is_empty : List Row → Bool
is_empty [] = true
is_empty (r ∷ rs) = false

-- Valid: a bit for each table that has rows
unfoldable pub valid_bits : ℕ → Tables → ℕ
valid_bits t [] = 0
valid_bits t (rows ∷ more) = (if is_empty rows then 0 else 2 ^ t) + valid_bits (suc t) more

-- the number of rows of each table that has rows
unfoldable pub counts_bytes : Tables → List ℕ
counts_bytes [] = []
counts_bytes (rows ∷ more) = (if is_empty rows then [] else word (length rows)) ++ counts_bytes more

-- the tables that II.22 requires to be sorted
abbrev pub sorted_bits : ℕ
sorted_bits = 0x16003301fa00

-- version 2.0, HeapSizes, a 1 that is reserved, Valid, Sorted, and the counts
unfoldable pub head_bytes : ℕ → Tables → List ℕ
head_bytes sizes tables =
    0 ∷ 0 ∷ 0 ∷ 0 ∷ 2 ∷ 0 ∷ sizes ∷ 1 ∷ (little_bytes 8 (valid_bits 0 tables) ++ little_bytes 8 sorted_bits ++ counts_bytes tables)

unfoldable pub tables_stream : ℕ → Tables → List ℕ
tables_stream sizes tables = padded 4 (head_bytes sizes tables ++ tables_bytes sizes tables 0 tables)
