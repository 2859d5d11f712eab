-- The cells of rows as a record has them (II.22, II.24.2.6). `m` are the bytes of the metadata; tables are named by their
-- numbers, rows are counted from 1 and columns from 0.
use Rattle.std.specs.Prelude.{ℕ, zero, suc, ◌+◌, ◌/◌, ◌%◌, ◌^◌, List, [], ◌∷◌, ◌++◌, unwrap_or, ◌==◌, if◌then◌else◌}
use Rattle.il_base.specs.declared.cli_format.column.Column.{Column}
use Rattle.il_base.specs.declared.cli_format.column.Column.TheVariants.{Index, IndexOrNone, Coded, CodedOrNone}
use Rattle.il_base.specs.declared.cli_format.column.CodedIndex.{CodedIndex}
use Rattle.il_base.specs.declared.cli_format.stream.StreamName.TheVariants.{Strings, Blobs, Guids}
use Rattle.il_base.specs.cli_format.Streams.{heap}
use Rattle.il_base.specs.cli_format.Heaps.{string_of, blob_of, guid_of}
use Rattle.il_base.specs.cli_format.Coded.{tag_bits_of}
use Rattle.il_base.specs.cli_format.Tables.{cell_number, column_of, rows_of, target_of}
use Rattle.il_base.specs.cli_format.Metadata.{tables_stream}
use Rattle.il_base.specs.world_model.Tokens.{token_of}

-- the number in a cell
unfoldable pub number_in : List ℕ → ℕ → ℕ → ℕ → ℕ
number_in m t c r = cell_number (tables_stream m) t r c

-- the items that cells name: a text, a blob, a GUID of 16 bytes or none
unfoldable pub text_in : List ℕ → ℕ → ℕ → ℕ → List ℕ
text_in m t c r = unwrap_or (string_of (heap m Strings) (number_in m t c r)) []

unfoldable pub blob_in : List ℕ → ℕ → ℕ → ℕ → List ℕ
blob_in m t c r = unwrap_or (blob_of (heap m Blobs) (number_in m t c r)) []

unfoldable pub guid_in : List ℕ → ℕ → ℕ → ℕ → List ℕ
guid_in m t c r = unwrap_or (guid_of (heap m Guids) (number_in m t c r)) []

-- the token of a row of a table, 0 for none
unfoldable pub index_token : ℕ → ℕ → ℕ
index_token t n = if n == 0 then 0 else token_of t n

-- the token that a coded index has, whose tag stands in its low bits; 0 for none
unfoldable pub coded_token : CodedIndex → ℕ → ℕ
coded_token index n =
    if n == 0 then 0
    else token_of (unwrap_or (target_of index (n % 2 ^ tag_bits_of index)) 0) (n / 2 ^ tag_bits_of index)

abbrev pub token_by : Column → ℕ → ℕ
token_by (Index t) n = index_token t n
token_by (IndexOrNone t) n = index_token t n
token_by (Coded index) n = coded_token index n
token_by (CodedOrNone index) n = coded_token index n
token_by _ n = n

-- the token in a cell, by what its column holds
unfoldable pub token_in : List ℕ → ℕ → ℕ → ℕ → ℕ
token_in m t c r = token_by (column_of t c) (number_in m t c r)

-- the number of rows of a table
unfoldable pub count_of : List ℕ → ℕ → ℕ
count_of m t = rows_of (tables_stream m) t

-- the row past the last of a run that begins in a cell: where the run of the next row begins, or past the last row of the runs'
-- table
unfoldable pub run_end : List ℕ → ℕ → ℕ → ℕ → ℕ → ℕ
run_end m t c target r = if r == count_of m t then count_of m target + 1 else number_in m t c (r + 1)

-- the rows from 1 to a number
unfoldable pub first_rows : {A : Type 0} → (ℕ → A) → ℕ → List A
first_rows row zero = []
first_rows row (suc n) = first_rows row n ++ row (suc n) ∷ []

-- all rows of a table
abbrev pub all_rows : {A : Type 0} → List ℕ → ℕ → (ℕ → A) → List A
all_rows m t row = first_rows row (count_of m t)
