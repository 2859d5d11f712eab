-- When tables and heaps can be laid out, and what they read back as.
use Rattle.std.specs.Prelude.{◌≡◌, ℕ, suc, ◌+◌, ◌*◌, ◌-◌, ◌<◌, ◌≤◌, ◌^◌, List, [], ◌∷◌, ◌++◌, length, get_or, slice_get, Some, None, IsTrue}
use Rattle.std.specs.List.{AllByRecursion}
use Rattle.std.specs.Str.{is_utf8}
use Rattle.il_base.specs.declared.cli_format.column.Column.{Column}
use Rattle.il_base.specs.cli_format.Columns.{columns_of}
use Rattle.il_base.specs.cli_format.Demand.{first_fault, number}
use Rattle.il_base.specs.cli_format.Heaps.{string_of, blob_of, guid_of, user_string_of}
use Rattle.il_base.specs.cli_format.Tables.{heap_sizes, rows_of, cell_number, width}
use Rattle.il_base.specs.cli_format.Metadata.{head_demands, rows_demands, most_rows}
use Rattle.rules.specs.file_layout.Interning.{each_once}
use Rattle.rules.specs.file_layout.Heaps.{strings_heap, string_place, blobs_heap, blob_place, guids_heap, guid_number, users_heap, user_place, units_bytes, last_byte}
use Rattle.rules.specs.file_layout.TableStream as laid
use Rattle.rules.specs.file_layout.TableStream.{Row, Tables, rows_in}

-- ---- tables

-- a row has a number for each column, which fits the column's width
unfoldable pub FitsRow : ℕ → Tables → List Column → Row → Type 0
FitsRow sizes tables [] [] = Unit {0}
FitsRow sizes tables [] (n ∷ ns) = ⊥
FitsRow sizes tables (c ∷ cs) [] = ⊥
FitsRow sizes tables (c ∷ cs) (n ∷ ns) = (n < 256 ^ laid.width sizes tables c) × FitsRow sizes tables cs ns

-- the tables 00 to 2c, of which those that II.22 has may have rows; one Module row, one Assembly row, a TypeDef row
pub record CanTables (sizes : ℕ) (tables : Tables) : Type 0 where
  pub known_sizes : sizes < 8
  pub count : length tables ≡ 45
  pub known : (t : ℕ) → columns_of t ≡ [] → get_or tables t [] ≡ []
  pub few : (t : ℕ) → rows_in tables t ≤ most_rows
  pub modules : rows_in tables 0x00 ≡ 1
  pub assemblies : rows_in tables 0x20 ≡ 1
  pub types : 1 ≤ rows_in tables 0x02
  pub rows : (t r : ℕ) (row : Row) → slice_get (get_or tables t []) r ≡ Some row → FitsRow sizes tables (columns_of t) row

-- A `#~` stream reads back as its tables. Rows are counted from 1 there, and from 0 in their lists.
pub record TablesReadBack (sizes : ℕ) (tables : Tables) (ts : List ℕ) : Type 0 where
  pub head : (base : ℕ) → first_fault (head_demands ts base) ≡ None
  pub rows_meet : (base : ℕ) → first_fault (rows_demands ts base) ≡ None
  pub same_sizes : heap_sizes ts ≡ sizes
  pub rows : (t : ℕ) → rows_of ts t ≡ rows_in tables t
  pub widths : (c : Column) → width ts c ≡ laid.width sizes tables c
  pub cells : (t r c n : ℕ) (row : Row) → slice_get (get_or tables t []) r ≡ Some row → slice_get row c ≡ Some n → cell_number ts t (suc r) c ≡ n

-- ---- heaps

-- the bytes of a text: UTF-8 without a zero
pub record IsText (text : List ℕ) : Type 0 where
  pub utf8 : IsTrue (is_utf8 text)
  pub no_zero : AllByRecursion (λ b. b ≡ 0 → ⊥) text

-- an item is one of those in a list
abbrev pub IsIn : List (List ℕ) → List ℕ → Type 0
IsIn xs x = (k : ℕ) × (slice_get xs k ≡ Some x)

-- what the demands of heaps ask of one: its first byte is zero, also where it is empty
abbrev pub BeginsWithZero : List ℕ → Type 0
BeginsWithZero heap = number 1 heap 0 ≡ 0

-- `#Strings` gives each text at its place, and begins and ends with a zero. So do `#Blob` and `#GUID` their items.
pub record StringsReadBack (texts : List (List ℕ)) : Type 0 where
  pub first : BeginsWithZero (strings_heap texts)
  pub last : number 1 (strings_heap texts) (length (strings_heap texts) - 1) ≡ 0
  pub empty : string_of (strings_heap texts) (string_place texts []) ≡ Some []
  pub each : (text : List ℕ) → IsIn texts text → IsText text → string_of (strings_heap texts) (string_place texts text) ≡ Some text
  pub within : (text : List ℕ) → IsIn texts text → string_place texts text < length (strings_heap texts)

pub record BlobsReadBack (blobs : List (List ℕ)) : Type 0 where
  pub first : BeginsWithZero (blobs_heap blobs)
  pub empty : blob_of (blobs_heap blobs) (blob_place blobs []) ≡ Some []
  pub each : (blob : List ℕ) → IsIn blobs blob → length blob < 2 ^ 29 → blob_of (blobs_heap blobs) (blob_place blobs blob) ≡ Some blob
  pub within : (blob : List ℕ) → IsIn blobs blob → blob_place blobs blob < length (blobs_heap blobs)

-- where each GUID has 16 bytes
pub record GuidsReadBack (guids : List (List ℕ)) : Type 0 where
  pub each : (guid : List ℕ) → IsIn guids guid → guid_of (guids_heap guids) (guid_number guids guid) ≡ Some guid
  pub within : (guid : List ℕ) → IsIn guids guid → guid_number guids guid ≤ length guids
  pub size : length (guids_heap guids) ≡ 16 * length guids

-- the units of an item of `#US` are read from its bytes, the last of which isn't one of theirs
pub record UsersReadBack (texts : List (List ℕ)) : Type 0 where
  pub first : BeginsWithZero (users_heap texts)
  pub each : (units : List ℕ) → IsIn texts units → 2 * length units + 1 < 2 ^ 29
      → user_string_of (users_heap texts) (user_place texts units) ≡ Some (units_bytes units ++ last_byte units ∷ [])
  pub within : (units : List ℕ) → IsIn texts units → user_place texts units < length (users_heap texts)

-- the items of a list, each once
pub record Once (xs : List (List ℕ)) : Type 0 where
  pub all : (x : List ℕ) → IsIn xs x → IsIn (each_once xs) x
  pub only : (x : List ℕ) → IsIn (each_once xs) x → IsIn xs x
  pub once : (j k : ℕ) (x : List ℕ) → slice_get (each_once xs) j ≡ Some x → slice_get (each_once xs) k ≡ Some x → j ≡ k
