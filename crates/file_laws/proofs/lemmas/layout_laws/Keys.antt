-- The columns by which tables are sorted hold numbers that are in no heap.
use Rattle.std.proofs.Common.{◌≡◌, ℕ, zero, suc, ◌<◌, true, false, Bool, List, [], ◌∷◌, length, get_or, refl}
use Rattle.std.specs.Prelude.{◌&&◌, nat_lt, IsTrue}
use Rattle.std.proofs.lemmas.Bool.{and_parts, ltb-true}
use Rattle.il_base.specs.declared.cli_format.column.Column.{Column}
use Rattle.il_base.specs.declared.cli_format.column.Column.TheVariants.{U8, Text, Blob, Guid}
use Rattle.il_base.specs.declared.cli_format.key.SortKey.{SortKey}
use Rattle.il_base.specs.declared.cli_format.key.SortKey.TheVariants.{Unsorted, ByOne, Strictly, ByTwo}
use Rattle.il_base.specs.declared.cli_format.key.TheConstants.{SORT_KEYS}
use Rattle.il_base.specs.cli_format.Columns.{columns_of, sort_key_of, schema}
use Rattle.il_base.specs.cli_format.Tables.{column_of}
use Rattle.rules.specs.declared.file_layout.cell.Cell.{Cell}
use Rattle.rules.specs.declared.file_layout.cell.Cell.TheVariants as cell
use Rattle.rules.specs.file_layout.Cells.{CellTables, Pools, number_of}
use Rattle.file_laws.proofs.lemmas.layout_laws.Cells.{FitsCell, plain}

abbrev pub holds_number : Column → Bool
holds_number Text = false
holds_number Blob = false
holds_number Guid = false
holds_number c = true

pub number_plain : (cells : CellTables) (pools : Pools) (c : Column) (x : Cell) → FitsCell cells c x → IsTrue (holds_number c) → number_of pools x ≡ plain x
number_plain cells pools c (cell.Number n) f is = refl
number_plain cells pools Text (cell.Text t) f is = absurd cc
number_plain cells pools Blob (cell.Blob b) f is = absurd cc
number_plain cells pools Guid (cell.Guid g) f is = absurd cc
number_plain cells pools c x f is = absurd f

-- ---- keys

pub record IsKey (t c : ℕ) : Type 0 where
  pub within : c < length (columns_of t)
  pub number : IsTrue (holds_number (column_of t c))

abbrev pub KeyWithin : ℕ → SortKey → Type 0
KeyWithin t Unsorted = Unit {0}
KeyWithin t (ByOne c) = IsKey t c
KeyWithin t (Strictly c) = IsKey t c
KeyWithin t (ByTwo c d) = IsKey t c × IsKey t d

abbrev is_key : List Column → ℕ → Bool
is_key cs c = nat_lt c (length cs) && holds_number (get_or cs c U8)

abbrev key_in : SortKey → List Column → Bool
key_in Unsorted cs = true
key_in (ByOne c) cs = is_key cs c
key_in (Strictly c) cs = is_key cs c
key_in (ByTwo c d) cs = is_key cs c && is_key cs d

keys_in : List SortKey → List (List Column) → Bool
keys_in [] css = true
keys_in (k ∷ ks) [] = false
keys_in (k ∷ ks) (cs ∷ css) = key_in k cs && keys_in ks css

key_at : (ks : List SortKey) (css : List (List Column)) (t : ℕ) → keys_in ks css ≡ true → key_in (get_or ks t Unsorted) (get_or css t []) ≡ true
unfolding keys_in
key_at [] css t h = refl
key_at (k ∷ ks) [] t h = absurd cc
key_at (k ∷ ks) (cs ∷ css) zero h = (and_parts (key_in k cs) (keys_in ks css) h).0
key_at (k ∷ ks) (cs ∷ css) (suc t) h = key_at ks css t (and_parts (key_in k cs) (keys_in ks css) h).1

all_keys_in : keys_in SORT_KEYS schema ≡ true
unfolding keys_in schema
all_keys_in = refl

key_here : (t : ℕ) → key_in (sort_key_of t) (columns_of t) ≡ true
unfolding sort_key_of columns_of
key_here t = key_at SORT_KEYS schema t all_keys_in

is_key_of : (t c : ℕ) → is_key (columns_of t) c ≡ true → IsKey t c
unfolding column_of
is_key_of t c h =
    let both = and_parts (nat_lt c (length (columns_of t))) (holds_number (get_or (columns_of t) c U8)) h in
    record { within = ltb-true c (length (columns_of t)) both.0; number = both.1 }

within_by : (t : ℕ) (key : SortKey) → key_in key (columns_of t) ≡ true → KeyWithin t key
within_by t Unsorted h = tt
within_by t (ByOne c) h = is_key_of t c h
within_by t (Strictly c) h = is_key_of t c h
within_by t (ByTwo c d) h =
    let both = and_parts (is_key (columns_of t) c) (is_key (columns_of t) d) h in
    (is_key_of t c both.0, is_key_of t d both.1)

pub keys_within : (t : ℕ) → KeyWithin t (sort_key_of t)
keys_within t = within_by t (sort_key_of t) (key_here t)
