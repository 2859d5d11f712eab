-- What a file demands of its metadata (II.22 to II.24). `bs` are the bytes of the metadata, from its root on, and
-- `base` is the root's place in the file.
use Rattle.std.specs.Prelude.{◌≡◌, ℕ, ◌+◌, ◌-◌, ◌/◌, ◌%◌, Bool, true, false, not, ◌==◌, ◌&&◌, ◌||◌, nat_le, nat_lt, List, ◌++◌, length, take, drop, Option, Some, None, Result, Ok, Err, is_some}
use Rattle.il_base.specs.declared.cli_format.column.Column.{Column}
use Rattle.il_base.specs.declared.cli_format.column.Column.TheVariants.{U8, U16, U32, Text, Blob, Guid, Index, IndexOrNone, Run, Coded, CodedOrNone}
use Rattle.il_base.specs.declared.cli_format.error.TablesError.{TablesError}
use Rattle.il_base.specs.declared.cli_format.error.TablesError.TheVariants.{Bad, Rows, NoMemory}
use Rattle.il_base.specs.declared.cli_format.key.SortKey.{SortKey}
use Rattle.il_base.specs.declared.cli_format.key.SortKey.TheVariants.{Unsorted, ByOne, Strictly, ByTwo}
use Rattle.il_base.specs.declared.cli_format.stream.Stream.{Stream}
use Rattle.il_base.specs.declared.cli_format.stream.StreamName.TheVariants.{Tables, Strings, UserStrings, Guids, Blobs, Uncompressed}
use Rattle.il_base.specs.declared.table.TheConstants.{MODULE, TYPE_DEF, ASSEMBLY}
use Rattle.il_base.specs.declared.reason.TheConstants.{BAD_ROOT, BAD_STREAM, BAD_HEAP, UNKNOWN_TABLE, ROW_OUT_OF_RANGE, LIST_ORDER, SORT_ORDER}
use Rattle.il_base.specs.cli_format.Demand.{Demand, demand, each_below, first_fault, bad, number}
use Rattle.il_base.specs.cli_format.Streams.{version_length, stream_count, header_place, header_size, name_length, padding_length, stream_at, streams_before, streams_of, stream_called, heap, heap_place, agrees, zeros, name_number}
use Rattle.il_base.specs.cli_format.Columns.{columns_of, sort_key_of}
use Rattle.il_base.specs.cli_format.Tables.{heap_sizes, is_present, count_place, rows_of, table_place, row_place, cell_place, cell_number, column_of, names_row, names_coded}
use Rattle.il_base.specs.cli_format.Heaps.{string_of, blob_of}

-- the refusal at a place of the metadata
abbrev pub bad_at : ℕ → ℕ → TablesError
bad_at offset why = Bad (bad offset why)

-- an error of a call is want of memory, or the first fault
unfoldable pub Refused : TablesError → Option TablesError → Type 0
Refused NoMemory fault = Unit {0}
Refused (Bad b) fault = fault ≡ Some (Bad b)
Refused (Rows n) fault = fault ≡ Some (Rows n)

-- A call answers by demands, or runs out of memory.
abbrev pub Read : {X : Type 0} → Result X TablesError → List (Demand TablesError) → X → Type 0
Read (Ok x) demands value = (first_fault demands ≡ None) × (x ≡ value)
Read (Err e) demands value = Refused e (first_fault demands)

-- ---- root and streams

-- the root's signature, and a version text of at most 256 bytes, a multiple of 4; all of it lies in the metadata
unfoldable pub root_demands : List ℕ → ℕ → List (Demand TablesError)
root_demands bs base =
    demand (number 4 bs 0 == 0x424a5342) (bad_at base BAD_ROOT)
    ++ demand ((version_length bs % 4 == 0) && nat_le (version_length bs) 256) (bad_at base BAD_ROOT)
    ++ demand (nat_le (20 + version_length bs) (length bs)) (bad_at base BAD_ROOT)

-- the header of a stream lies in the metadata, its name has at most 32 bytes, and zeros stand after them
unfoldable pub header_fits : List ℕ → ℕ → Bool
header_fits bs h =
    nat_le (h + header_size bs h) (length bs)
    && nat_le (name_length bs h) 32
    && zeros (take (padding_length bs h) (drop (h + 8 + name_length bs h) bs))

-- a stream lies in the metadata, overlaps no earlier one and repeats no name of them, and isn't `#-`
unfoldable pub stream_fits : List ℕ → Stream → List Stream → Bool
stream_fits bs s earlier =
    nat_le (s.offset + s.size) (length bs)
    && agrees s earlier
    && not (name_number s.name == name_number Uncompressed)

-- a stream whose header is at a place, after earlier ones
unfoldable pub stream_demands : List ℕ → ℕ → ℕ → List Stream → List (Demand TablesError)
stream_demands bs base h earlier =
    demand (header_fits bs h) (bad_at (base + h) BAD_STREAM)
    ++ demand (stream_fits bs (stream_at bs h) earlier) (bad_at (base + h) BAD_STREAM)

unfoldable pub nth_stream_demands : List ℕ → ℕ → ℕ → List (Demand TablesError)
nth_stream_demands bs base i = stream_demands bs base (header_place bs i) (streams_before bs i)

unfoldable pub streams_demands : List ℕ → ℕ → List (Demand TablesError)
streams_demands bs base =
    each_below (nth_stream_demands bs base) (stream_count bs)
    ++ demand (is_some (stream_called Tables (streams_of bs))) (bad_at base BAD_STREAM)

-- ---- the head of the tables

-- the bytes of the `#~` stream, and its place in the file
abbrev pub tables_stream : List ℕ → List ℕ
tables_stream bs = heap bs Tables

unfoldable pub tables_base : List ℕ → ℕ → ℕ
tables_base bs base = base + heap_place bs Tables

-- version 2.0, no unknown bit in HeapSizes, and the row counts and all rows lie in the stream. A table that II.22
-- doesn't have has a count, and no rows here.
unfoldable pub head_demands : List ℕ → ℕ → List (Demand TablesError)
head_demands ts base =
    demand (nat_le 24 (length ts)) (bad_at base BAD_STREAM)
    ++ demand (number 2 ts 4 == 2) (bad_at base BAD_STREAM)
    ++ demand (nat_lt (heap_sizes ts) 8) (bad_at base BAD_STREAM)
    ++ demand (nat_le (count_place ts 64) (length ts)) (bad_at base BAD_STREAM)
    ++ demand (nat_le (table_place ts 45) (length ts)) (bad_at base BAD_STREAM)

-- a table that is present is one of II.22
unfoldable pub known_demands : List ℕ → ℕ → ℕ → List (Demand TablesError)
known_demands ts base t = demand (not (is_present ts t) || nat_lt 0 (length (columns_of t))) (bad_at (base + 8) UNKNOWN_TABLE)

-- the most rows that a table may have
abbrev pub most_rows : ℕ
most_rows = 1048576

unfoldable pub limit_demands : List ℕ → ℕ → List (Demand TablesError)
limit_demands ts t = demand (nat_le (rows_of ts t) most_rows) (Rows (rows_of ts t))

-- one Module row, one Assembly row, and a TypeDef row
unfoldable pub single_demands : List ℕ → ℕ → List (Demand TablesError)
single_demands ts base =
    demand ((rows_of ts MODULE == 1) && (rows_of ts ASSEMBLY == 1) && nat_le 1 (rows_of ts TYPE_DEF)) (bad_at (base + 8) ROW_OUT_OF_RANGE)

unfoldable pub rows_demands : List ℕ → ℕ → List (Demand TablesError)
rows_demands ts base =
    each_below (known_demands ts base) 64
    ++ each_below (limit_demands ts) 45
    ++ single_demands ts base

-- ---- heaps

-- `#Strings` begins and ends with a zero, `#Blob` and `#US` begin with one, where they aren't empty
unfoldable pub heap_demands : List ℕ → ℕ → List (Demand TablesError)
heap_demands bs base =
    demand ((number 1 (heap bs Strings) 0 == 0) && (number 1 (heap bs Strings) (length (heap bs Strings) - 1) == 0)) (bad_at (base + heap_place bs Strings) BAD_HEAP)
    ++ demand (number 1 (heap bs Blobs) 0 == 0) (bad_at (base + heap_place bs Blobs) BAD_HEAP)
    ++ demand (number 1 (heap bs UserStrings) 0 == 0) (bad_at (base + heap_place bs UserStrings) BAD_HEAP)

-- ---- cells

-- a number in a column names an item or a row that is there; 0 names nothing, in a column that allows it
unfoldable pub names_item : List ℕ → Column → ℕ → Bool
names_item bs U8 n = true
names_item bs U16 n = true
names_item bs U32 n = true
names_item bs Text n = is_some (string_of (heap bs Strings) n)
names_item bs Blob n = is_some (blob_of (heap bs Blobs) n)
names_item bs Guid n = nat_le n (length (heap bs Guids) / 16)
names_item bs (Index t) n = names_row (tables_stream bs) t n
names_item bs (IndexOrNone t) n = (n == 0) || names_row (tables_stream bs) t n
names_item bs (Run t) n = nat_le 1 n && nat_le n (rows_of (tables_stream bs) t + 1)
names_item bs (Coded index) n = names_coded (tables_stream bs) index n
names_item bs (CodedOrNone index) n = (n == 0) || names_coded (tables_stream bs) index n

-- the reason for which a number in a column is refused
unfoldable pub why_not : Column → ℕ
why_not Text = BAD_HEAP
why_not Blob = BAD_HEAP
why_not Guid = BAD_HEAP
why_not _ = ROW_OUT_OF_RANGE

-- the place of a cell in the file
unfoldable pub cell_offset : List ℕ → ℕ → ℕ → ℕ → ℕ → ℕ
cell_offset bs base t r c = tables_base bs base + cell_place (tables_stream bs) t r c

unfoldable pub cell_demands : List ℕ → ℕ → ℕ → ℕ → ℕ → List (Demand TablesError)
cell_demands bs base t r c =
    demand (names_item bs (column_of t c) (cell_number (tables_stream bs) t (r + 1) c)) (bad_at (cell_offset bs base t (r + 1) c) (why_not (column_of t c)))

-- the cells of a row, whose number here is counted from 0
unfoldable pub row_demands : List ℕ → ℕ → ℕ → ℕ → List (Demand TablesError)
row_demands bs base t r = each_below (cell_demands bs base t r) (length (columns_of t))

unfoldable pub table_demands : List ℕ → ℕ → ℕ → List (Demand TablesError)
table_demands bs base t = each_below (row_demands bs base t) (rows_of (tables_stream bs) t)

-- ---- runs

abbrev pub is_run : Column → Bool
is_run (Run t) = true
is_run _ = false

-- in a run column, a row's number isn't below that of the row above it; r counts pairs of rows from 0
unfoldable pub run_demands : List ℕ → ℕ → ℕ → ℕ → ℕ → List (Demand TablesError)
run_demands bs base t r c =
    demand (not (is_run (column_of t c)) || nat_le (cell_number (tables_stream bs) t (r + 1) c) (cell_number (tables_stream bs) t (r + 2) c)) (bad_at (cell_offset bs base t (r + 2) c) LIST_ORDER)

unfoldable pub row_run_demands : List ℕ → ℕ → ℕ → ℕ → List (Demand TablesError)
row_run_demands bs base t r = each_below (run_demands bs base t r) (length (columns_of t))

unfoldable pub table_run_demands : List ℕ → ℕ → ℕ → List (Demand TablesError)
table_run_demands bs base t = each_below (row_run_demands bs base t) (rows_of (tables_stream bs) t - 1)

-- ---- sorted tables

-- two rows, one below the other, are in the order of a sort key
unfoldable pub in_order : SortKey → (ℕ → ℕ) → (ℕ → ℕ) → Bool
in_order Unsorted above below = true
in_order (ByOne c) above below = nat_le (above c) (below c)
in_order (Strictly c) above below = nat_lt (above c) (below c)
in_order (ByTwo c d) above below = nat_lt (above c) (below c) || ((above c == below c) && nat_le (above d) (below d))

unfoldable pub sort_demands : List ℕ → ℕ → ℕ → ℕ → List (Demand TablesError)
sort_demands bs base t r =
    demand (in_order (sort_key_of t) (cell_number (tables_stream bs) t (r + 1)) (cell_number (tables_stream bs) t (r + 2))) (bad_at (tables_base bs base + row_place (tables_stream bs) t (r + 2)) SORT_ORDER)

unfoldable pub table_sort_demands : List ℕ → ℕ → ℕ → List (Demand TablesError)
table_sort_demands bs base t = each_below (sort_demands bs base t) (rows_of (tables_stream bs) t - 1)

-- ---- all of it

-- Everything that a file demands of its metadata's form, in order.
unfoldable pub form_demands : List ℕ → ℕ → List (Demand TablesError)
form_demands bs base =
    root_demands bs base
    ++ streams_demands bs base
    ++ head_demands (tables_stream bs) (tables_base bs base)
    ++ rows_demands (tables_stream bs) (tables_base bs base)
    ++ heap_demands bs base

-- Everything that a file demands of its rows, in order.
unfoldable pub content_demands : List ℕ → ℕ → List (Demand TablesError)
content_demands bs base =
    each_below (table_demands bs base) 45
    ++ each_below (table_run_demands bs base) 45
    ++ each_below (table_sort_demands bs base) 45

-- Everything that a file demands of its metadata, in order.
unfoldable pub tables_demands : List ℕ → ℕ → List (Demand TablesError)
tables_demands bs base = form_demands bs base ++ content_demands bs base

-- ---- what a reader of tables gives

abbrev pub table_rows : List ℕ → ℕ → ℕ
table_rows bs t = rows_of (tables_stream bs) t
