-- What is read of metadata whose tables are laid out, and that the demands on it hold.
use Rattle.std.proofs.Common.{◌≡◌, ℕ, zero, suc, ◌+◌, ◌-◌, ◌<◌, ◌≤◌, true, not, List, [], length, get_or, Some, None, inl, inr, refl, ap, ◌∙◌, sym, arith}
use Rattle.std.specs.Prelude.{slice_get, nat_le, ◌||◌, ◌==◌, IsTrue}
use Rattle.std.proofs.lemmas.Option.{get_or_from_slice_get}
use Rattle.file_laws.proofs.lemmas.layout_laws.Keys.{holds_number, number_plain, IsKey, KeyWithin, keys_within}
use Rattle.std.proofs.lemmas.Bool.{and_from, le-leb, or_right}
use Rattle.il_base.specs.declared.cli_format.column.Column.{Column}
use Rattle.il_base.specs.declared.cli_format.column.Column.TheVariants.{U8, U16, U32, Text, Blob, Guid, Index, IndexOrNone, Run, Coded, CodedOrNone}
use Rattle.il_base.specs.declared.cli_format.key.SortKey.{SortKey}
use Rattle.il_base.specs.declared.cli_format.key.SortKey.TheVariants.{Unsorted, ByOne, Strictly, ByTwo}
use Rattle.il_base.specs.declared.cli_format.stream.StreamName.TheVariants.{Tables, Strings, Blobs, Guids}
use Rattle.il_base.specs.cli_format.Columns.{columns_of, sort_key_of}
use Rattle.il_base.specs.cli_format.Demand.{Demand, first_fault, each_below}
use Rattle.il_base.specs.cli_format.Streams.{heap}
use Rattle.il_base.specs.cli_format.Tables.{rows_of, cell_number, names_row, column_of}
use Rattle.il_base.specs.cli_format.Metadata.{tables_stream, names_item, cell_demands, row_demands, table_demands, is_run, run_demands, row_run_demands, table_run_demands, in_order, sort_demands, table_sort_demands, content_demands}
use Rattle.il_base.proofs.lemmas.cli_format.Faults.{none_then, one_holds, none_below}
use Rattle.rules.specs.file_layout.Heaps.{strings_heap, blobs_heap, guids_heap}
use Rattle.rules.specs.declared.file_layout.cell.Cell.{Cell}
use Rattle.rules.specs.declared.file_layout.cell.Cell.TheVariants as cell
use Rattle.rules.specs.file_layout.Cells.{CellTables, pools_of, number_of, numbers_of}
use Rattle.rules.specs.file_layout.Laid.{sizes_of}
use Rattle.rules.specs.file_layout.TableStream as laid
use Rattle.rules.specs.record_format.Cells.{number_in, text_in, blob_in, guid_in}
use Rattle.file_laws.specs.written_tables.Written.{IsText, TablesReadBack, Once}
use Rattle.file_laws.proofs.lemmas.layout_laws.Lists.{mapped, element}
use Rattle.file_laws.proofs.lemmas.layout_laws.Cells.{count, plain, FitsCell, cells_rise, cell_fits, as_long, coded_names}
use Rattle.file_laws.proofs.lemmas.layout_laws.Pools.{Fitting, Pooled, pooled, Heaped}
use Rattle.file_laws.proofs.lemmas.layout_laws.Numbers.{row_numbers, table_numbers, same_count}

-- the metadata's tables and heaps are these
pub record Reads (m : List ℕ) (cells : CellTables) : Type 0 where
  pub rows : (t : ℕ) → rows_of (tables_stream m) t ≡ count cells t
  pub cell : (t r c : ℕ) (row : List Cell) (x : Cell) → slice_get (get_or cells t []) r ≡ Some row → slice_get row c ≡ Some x
      → cell_number (tables_stream m) t (suc r) c ≡ number_of (pools_of cells) x
  pub strings : heap m Strings ≡ strings_heap (pools_of cells).texts
  pub blobs : heap m Blobs ≡ blobs_heap (pools_of cells).blobs
  pub guids : heap m Guids ≡ guids_heap (pools_of cells).guids
  pub there : (t r c : ℕ) (row : List Cell) (x : Cell) → slice_get (get_or cells t []) r ≡ Some row → slice_get row c ≡ Some x → Pooled (pools_of cells) x
  pub heaps : Heaped (pools_of cells)

pub tables_read : (m : List ℕ) (cells : CellTables) → heap m Tables ≡ laid.tables_stream (sizes_of (pools_of cells)) (numbers_of (pools_of cells) cells)
    → TablesReadBack (sizes_of (pools_of cells)) (numbers_of (pools_of cells) cells) (laid.tables_stream (sizes_of (pools_of cells)) (numbers_of (pools_of cells) cells))
    → TablesReadBack (sizes_of (pools_of cells)) (numbers_of (pools_of cells) cells) (tables_stream m)
tables_read m cells e h = rw e h

pub reads : (m : List ℕ) (cells : CellTables) → TablesReadBack (sizes_of (pools_of cells)) (numbers_of (pools_of cells) cells) (tables_stream m)
    → heap m Strings ≡ strings_heap (pools_of cells).texts → heap m Blobs ≡ blobs_heap (pools_of cells).blobs → heap m Guids ≡ guids_heap (pools_of cells).guids
    → ((xs : List (List ℕ)) → Once xs) → Heaped (pools_of cells) → Reads m cells
reads m cells h s b g once heaps = record {
  rows = λ t. h.rows t ∙ same_count (pools_of cells) cells t;
  cell = λ t r c row x e f.
      h.cells t r c (number_of (pools_of cells) x) (row_numbers (pools_of cells) row)
      (rw (table_numbers (pools_of cells) cells t) (mapped (row_numbers (pools_of cells)) (get_or cells t []) r row e))
      (mapped (number_of (pools_of cells)) row c x f);
  strings = s;
  blobs = b;
  guids = g;
  there = pooled once cells;
  heaps = heaps;
}

-- ---- items in cells

module _ (m : List ℕ) (cells : CellTables) (h : Reads m cells) (t r c : ℕ) (row : List Cell) (e : slice_get (get_or cells t []) r ≡ Some row) where
  pub read_number : (n : ℕ) → slice_get row c ≡ Some (cell.Number n) → number_in m t c (suc r) ≡ n
  unfolding number_in
  read_number n f = h.cell t r c row (cell.Number n) e f

  pub read_text : (x : List ℕ) → slice_get row c ≡ Some (cell.Text x) → IsText x → text_in m t c (suc r) ≡ x
  unfolding text_in number_in
  read_text x f is = rw (h.cell t r c row (cell.Text x) e f, h.strings, h.heaps.text_is x (h.there t r c row (cell.Text x) e f) is) refl

  pub read_blob : (x : List ℕ) → slice_get row c ≡ Some (cell.Blob x) → blob_in m t c (suc r) ≡ x
  unfolding blob_in number_in
  read_blob x f = rw (h.cell t r c row (cell.Blob x) e f, h.blobs, h.heaps.blob_is x (h.there t r c row (cell.Blob x) e f)) refl

  pub read_guid : (x : List ℕ) → slice_get row c ≡ Some (cell.Guid x) → guid_in m t c (suc r) ≡ x
  unfolding guid_in number_in
  read_guid x f = rw (h.cell t r c row (cell.Guid x) e f, h.guids) (h.heaps.guid_is x (h.there t r c row (cell.Guid x) e f))

-- ---- demands on rows

none_each : {E : Type 0} (f : ℕ → List (Demand E)) (n : ℕ) → ((i : ℕ) → i < n → first_fault (f i) ≡ None) → first_fault (each_below f n) ≡ None
unfolding each_below
none_each f zero h = none_below f
none_each f (suc n) h = none_then (each_below f n) (f n) (none_each f n (λ i lt. h i (omega arith))) (h n (omega arith))

module _ (m : List ℕ) (cells : CellTables) (h : Reads m cells) (fit : Fitting cells) where
  row_there : (t n : ℕ) → (1 ≤ n) × (n ≤ count cells t) → names_row (tables_stream m) t n ≡ true
  unfolding names_row
  row_there t n f = and_from _ _ (le-leb 1 n f.0) (le-leb n (rows_of (tables_stream m) t) (omega (arith, f.1, h.rows t)))

  names : (c : Column) (x : Cell) → FitsCell cells c x → Pooled (pools_of cells) x → names_item m c (number_of (pools_of cells) x) ≡ true
  unfolding names_item names_row
  names U8 (cell.Number n) f p = refl
  names U16 (cell.Number n) f p = refl
  names U32 (cell.Number n) f p = refl
  names Text (cell.Text t) f p = rw (h.strings, h.heaps.text_is t p f) refl
  names Blob (cell.Blob b) f p = rw (h.blobs, h.heaps.blob_is b p) refl
  names Guid (cell.Guid g) f p = rw h.guids (le-leb _ _ (h.heaps.guid_there g p))
  names (Index t) (cell.Number n) f p = row_there t n f
  names (IndexOrNone t) (cell.Number zero) f p = refl
  names (IndexOrNone t) (cell.Number (suc n)) f p = or_right (suc n == 0) _ (row_there t (suc n) (omega arith, f))
  names (Run t) (cell.Number n) f p = and_from _ _ (le-leb 1 n f.0) (le-leb n (rows_of (tables_stream m) t + 1) (omega (arith, f.1, h.rows t)))
  names (Coded index) (cell.Number n) f p = coded_names cells (tables_stream m) index n h.rows f
  names (CodedOrNone index) (cell.Number n) (inl e) p = rw e refl
  names (CodedOrNone index) (cell.Number n) (inr f) p = or_right (n == 0) _ (coded_names cells (tables_stream m) index n h.rows f)
  names c x f p = absurd f

  -- a row and a cell that a place names
  at_row : (t r : ℕ) → r < rows_of (tables_stream m) t → (row : List Cell) × (slice_get (get_or cells t []) r ≡ Some row)
  at_row t r lt = element (get_or cells t []) r (omega (arith, lt, h.rows t))

  at_cell : (t r c : ℕ) (row : List Cell) → slice_get (get_or cells t []) r ≡ Some row → c < length (columns_of t) → (x : Cell) × (slice_get row c ≡ Some x)
  at_cell t r c row e lt = element row c (omega (arith, lt, as_long cells (columns_of t) row ((fit.all t).fits r row e)))

  fits_at : (t r c : ℕ) (row : List Cell) (x : Cell) → slice_get (get_or cells t []) r ≡ Some row → slice_get row c ≡ Some x → FitsCell cells (column_of t c) x
  unfolding column_of
  fits_at t r c row x e f = cell_fits cells (columns_of t) row ((fit.all t).fits r row e) c x f

  cell_held : (base t r c : ℕ) → r < rows_of (tables_stream m) t → c < length (columns_of t) → first_fault (cell_demands m base t r c) ≡ None
  unfolding cell_demands
  cell_held base t r c lt less =
      let row = at_row t r lt in
      let x = at_cell t r c row.0 row.1 less in
      let next : r + 1 ≡ suc r = omega arith in
      let is : cell_number (tables_stream m) t (r + 1) c ≡ number_of (pools_of cells) x.0 = rw next (h.cell t r c row.0 x.0 row.1 x.1) in
      one_holds _ _ (rw is (names (column_of t c) x.0 (fits_at t r c row.0 x.0 row.1 x.1) (h.there t r c row.0 x.0 row.1 x.1)))

  row_held : (base t r : ℕ) → r < rows_of (tables_stream m) t → first_fault (row_demands m base t r) ≡ None
  unfolding row_demands
  row_held base t r lt = none_each (cell_demands m base t r) (length (columns_of t)) (λ c less. cell_held base t r c lt less)

  table_held : (base t : ℕ) → first_fault (table_demands m base t) ≡ None
  unfolding table_demands
  table_held base t = none_each (row_demands m base t) (rows_of (tables_stream m) t) (λ r lt. row_held base t r lt)

  -- ---- runs

  -- what a cell in a column of numbers has in the file
  number_there : (t r c : ℕ) (row : List Cell) (x : Cell) → slice_get (get_or cells t []) r ≡ Some row → slice_get row c ≡ Some x → IsTrue (holds_number (column_of t c))
      → cell_number (tables_stream m) t (suc r) c ≡ plain x
  number_there t r c row x e f is = h.cell t r c row x e f ∙ number_plain cells (pools_of cells) (column_of t c) x (fits_at t r c row x e f) is

  run_rises : (col : Column) (t r c : ℕ) (row next : List Cell) (x y : Cell) → column_of t c ≡ col → slice_get (get_or cells t []) r ≡ Some row → slice_get (get_or cells t []) (suc r) ≡ Some next
      → slice_get row c ≡ Some x → slice_get next c ≡ Some y → (not (is_run col) || nat_le (plain x) (plain y)) ≡ true
      → (not (is_run col) || nat_le (cell_number (tables_stream m) t (suc r) c) (cell_number (tables_stream m) t (suc (suc r)) c)) ≡ true
  run_rises (Run s) t r c row next x y same e f g k le =
      let left : cell_number (tables_stream m) t (suc r) c ≡ plain x = number_there t r c row x e g (rw same refl) in
      let right : cell_number (tables_stream m) t (suc (suc r)) c ≡ plain y = number_there t (suc r) c next y f k (rw same refl) in
      rw (left, right) le
  run_rises col t r c row next x y same e f g k le = refl

  run_held : (base t r c : ℕ) → r < rows_of (tables_stream m) t - 1 → c < length (columns_of t) → first_fault (run_demands m base t r c) ≡ None
  unfolding run_demands column_of
  run_held base t r c lt less =
      let row = at_row t r (omega arith) in
      let below = at_row t (suc r) (omega arith) in
      let x = at_cell t r c row.0 row.1 less in
      let y = at_cell t (suc r) c below.0 below.1 less in
      let next : r + 1 ≡ suc r = omega arith in
      let after : r + 2 ≡ suc (suc r) = omega arith in
      let rises = cells_rise (columns_of t) row.0 below.0 ((fit.all t).rise r row.0 below.0 row.1 below.1) c x.0 y.0 less x.1 y.1 in
      one_holds _ _ (rw (next, after) (run_rises (column_of t c) t r c row.0 below.0 x.0 y.0 refl row.1 below.1 x.1 y.1 rises))

  row_run_held : (base t r : ℕ) → r < rows_of (tables_stream m) t - 1 → first_fault (row_run_demands m base t r) ≡ None
  unfolding row_run_demands
  row_run_held base t r lt = none_each (run_demands m base t r) (length (columns_of t)) (λ c less. run_held base t r c lt less)

  table_run_held : (base t : ℕ) → first_fault (table_run_demands m base t) ≡ None
  unfolding table_run_demands
  table_run_held base t = none_each (row_run_demands m base t) (rows_of (tables_stream m) t - 1) (λ r lt. row_run_held base t r lt)

  -- ---- order

  key_is : (t r c : ℕ) (row : List Cell) → slice_get (get_or cells t []) r ≡ Some row → IsKey t c → cell_number (tables_stream m) t (suc r) c ≡ plain (get_or row c (cell.Number 0))
  key_is t r c row e key =
      let x = at_cell t r c row e key.within in
      number_there t r c row x.0 e x.1 key.number ∙ ap plain (sym (get_or_from_slice_get row c x.0 (cell.Number 0) x.1))

  ordered : (t r : ℕ) (row next : List Cell) (key : SortKey) → slice_get (get_or cells t []) r ≡ Some row → slice_get (get_or cells t []) (suc r) ≡ Some next → KeyWithin t key
      → in_order key (λ c. plain (get_or row c (cell.Number 0))) (λ c. plain (get_or next c (cell.Number 0))) ≡ true
      → in_order key (cell_number (tables_stream m) t (suc r)) (cell_number (tables_stream m) t (suc (suc r))) ≡ true
  unfolding in_order
  ordered t r row next Unsorted e f key le = refl
  ordered t r row next (ByOne c) e f key le =
      let left = key_is t r c row e key in
      let right = key_is t (suc r) c next f key in
      rw (left, right) le
  ordered t r row next (Strictly c) e f key le =
      let left = key_is t r c row e key in
      let right = key_is t (suc r) c next f key in
      rw (left, right) le
  ordered t r row next (ByTwo c d) e f key le =
      let left = key_is t r c row e key.0 in
      let right = key_is t (suc r) c next f key.0 in
      let less = key_is t r d row e key.1 in
      let more = key_is t (suc r) d next f key.1 in
      rw (left, right, less, more) le

  sort_held : (base t r : ℕ) → r < rows_of (tables_stream m) t - 1 → first_fault (sort_demands m base t r) ≡ None
  unfolding sort_demands
  sort_held base t r lt =
      let row = at_row t r (omega arith) in
      let below = at_row t (suc r) (omega arith) in
      let next : r + 1 ≡ suc r = omega arith in
      let after : r + 2 ≡ suc (suc r) = omega arith in
      let is = (fit.all t).sorted r row.0 below.0 row.1 below.1 in
      one_holds _ _ (rw (next, after) (ordered t r row.0 below.0 (sort_key_of t) row.1 below.1 (keys_within t) is))

  table_sort_held : (base t : ℕ) → first_fault (table_sort_demands m base t) ≡ None
  unfolding table_sort_demands
  table_sort_held base t = none_each (sort_demands m base t) (rows_of (tables_stream m) t - 1) (λ r lt. sort_held base t r lt)

  pub content_held : (base : ℕ) → first_fault (content_demands m base) ≡ None
  unfolding content_demands
  content_held base =
      none_then _ _
      (none_then _ _ (none_each (table_demands m base) 45 (λ t lt. table_held base t)) (none_each (table_run_demands m base) 45 (λ t lt. table_run_held base t)))
      (none_each (table_sort_demands m base) 45 (λ t lt. table_sort_held base t))
