-- Widths of columns, and where tables, rows and cells stand (II.24.2.6).
use Rattle.std.proofs.Common.{◌≡◌, ℕ, zero, suc, ◌+◌, ◌-◌, ◌*◌, ◌^◌, ◌<◌, List, [], ◌∷◌, ◌++◌, length, take, Some, refl, sym, ap, subst, ◌∙◌, arith}
use Rattle.std.specs.Prelude.{get_or, slice_get}
use Rattle.std.specs.List.{flat_map}
use Rattle.std.proofs.lemmas.List.{length-append, append-nil, take_all}
use Rattle.std.proofs.lemmas.Option.{none-some, same_Some, slice_get_within}
use Rattle.byteorder.specs.Endian.{little_bytes}
use Rattle.byteorder.specs.Numbers.{length-bytes_low_first}
use Rattle.il_base.specs.declared.cli_format.column.Column.{Column}
use Rattle.il_base.specs.declared.cli_format.column.Column.TheVariants.{U8, U16, U32, Text, Blob, Guid, Index, IndexOrNone, Run, Coded, CodedOrNone}
use Rattle.il_base.specs.declared.cli_format.column.CodedIndex.{CodedIndex}
use Rattle.il_base.specs.cli_format.Coded.{targets_of, tag_bits_of}
use Rattle.il_base.specs.cli_format.Columns.{columns_of}
use Rattle.il_base.specs.cli_format.Tables.{rows_of, heap_width, index_width, fewer, coded_width, width, widths, row_width, count_place, table_place, row_place, cell_place, column_of, cell_number}
use Rattle.rules.specs.file_layout.TableStream as laid
use Rattle.rules.specs.file_layout.TableStream.{Row, Tables, row_bytes, table_bytes, tables_bytes, tables_stream}
use Rattle.file_laws.specs.written_tables.Written.{CanTables, FitsRow}
use Rattle.file_laws.proofs.lemmas.written_tables.Places.{Stands, stands_first, stands_second, stands_in, stands_at, number_stands, item_stands, length_items, length_items_before}
use Rattle.file_laws.proofs.lemmas.written_tables.Counts.{head, rows_bytes, all_stand, sizes_read, rows_read, length_head, table_within}

-- ---- pieces of one table and of all

-- the tables of a list after those before them
tables_more : (sizes : ℕ) (tables : Tables) (u : ℕ) (xs : Tables) (k : ℕ)
    → length (tables_bytes sizes tables u (take (suc k) xs)) ≡ length (tables_bytes sizes tables u (take k xs)) + length (table_bytes sizes tables (u + k) (get_or xs k []))
unfolding tables_bytes
tables_more sizes tables u [] zero = refl
tables_more sizes tables u [] (suc k) = refl
tables_more sizes tables u (rows ∷ more) zero =
    let same : length (table_bytes sizes tables u rows) ≡ length (table_bytes sizes tables (u + 0) rows) = ap (λ (t : ℕ). length (table_bytes sizes tables t rows)) (omega arith) in
    omega (arith, ap length (append-nil (table_bytes sizes tables u rows)), same)
tables_more sizes tables u (rows ∷ more) (suc k) =
    let front : List ℕ = table_bytes sizes tables u rows in
    let rest = tables_more sizes tables (suc u) more k in
    let same : length (table_bytes sizes tables (suc u + k) (get_or more k [])) ≡ length (table_bytes sizes tables (u + suc k) (get_or more k [])) =
    ap (λ (t : ℕ). length (table_bytes sizes tables t (get_or more k []))) (omega arith) in
    omega (arith, rest, same, length-append front (tables_bytes sizes tables (suc u) (take (suc k) more)), length-append front (tables_bytes sizes tables (suc u) (take k more)))

-- a table stands after those before it
tables_stand : (sizes : ℕ) (tables : Tables) (u : ℕ) (xs : Tables) (k : ℕ) (rows : List Row) → slice_get xs k ≡ Some rows
    → Stands (tables_bytes sizes tables u xs) (length (tables_bytes sizes tables u (take k xs))) (table_bytes sizes tables (u + k) rows)
unfolding tables_bytes
tables_stand sizes tables u [] k rows e = absurd (none-some rows e)
tables_stand sizes tables u (first ∷ more) zero rows e =
    let same : first ≡ rows = same_Some first rows e in
    let here : u ≡ u + 0 = omega arith in
    rw (← here, ← same) (stands_first (table_bytes sizes tables u first) (tables_bytes sizes tables (suc u) more))
tables_stand sizes tables u (first ∷ more) (suc k) rows e =
    let front : List ℕ = table_bytes sizes tables u first in
    let back : List ℕ = tables_bytes sizes tables (suc u) more in
    let before : List ℕ = tables_bytes sizes tables (suc u) (take k more) in
    let here : suc u + k ≡ u + suc k = omega arith in
    let p : Stands back (length before) (table_bytes sizes tables (suc u + k) rows) = tables_stand sizes tables (suc u) more k rows e in
    stands_at (front ++ back) _ (length front + length before) (length (front ++ before)) (sym (length-append front before))
    (stands_in (front ++ back) back _ (length front) (length before) (stands_second front back) (rw here at p))

module _ (sizes : ℕ) (tables : Tables) (h : CanTables sizes tables) where
  -- ---- widths

  abbrev ts : List ℕ
  ts = tables_stream sizes tables

  heap_same : (bit : ℕ) → heap_width ts bit ≡ laid.heap_width sizes bit
  unfolding heap_width
  heap_same bit = rw (sizes_read sizes tables h) refl

  index_same : (t : ℕ) → index_width ts t ≡ laid.index_width tables t
  unfolding index_width
  index_same t = rw (rows_read sizes tables h t) refl

  fewer_same : (limit : ℕ) (others : List ℕ) → fewer ts limit others ≡ laid.fewer tables limit others
  unfolding fewer laid.fewer
  fewer_same limit [] = refl
  fewer_same limit (t ∷ others) = rw (rows_read sizes tables h t, fewer_same limit others) refl

  coded_same : (index : CodedIndex) → coded_width ts index ≡ laid.coded_width tables index
  unfolding coded_width
  coded_same index = rw (fewer_same (2 ^ (16 - tag_bits_of index)) (targets_of index)) refl

  pub width_same : (c : Column) → width ts c ≡ laid.width sizes tables c
  unfolding width laid.width
  width_same U8 = refl
  width_same U16 = refl
  width_same U32 = refl
  width_same Text = heap_same 1
  width_same Guid = heap_same 2
  width_same Blob = heap_same 4
  width_same (Index t) = index_same t
  width_same (IndexOrNone t) = index_same t
  width_same (Run t) = index_same t
  width_same (Coded index) = coded_same index
  width_same (CodedOrNone index) = coded_same index

  -- ---- a row

  length_row : (cs : List Column) (row : Row) → FitsRow sizes tables cs row → length (row_bytes sizes tables cs row) ≡ widths ts cs
  unfolding row_bytes widths FitsRow
  length_row [] [] fits = refl
  length_row [] (n ∷ ns) fits = absurd fits
  length_row (c ∷ cs) [] fits = absurd fits
  length_row (c ∷ cs) (n ∷ ns) fits =
      let w : ℕ = laid.width sizes tables c in
      omega (arith, length_row cs ns fits.1, width_same c, length-append (little_bytes w n) (row_bytes sizes tables cs ns), length-bytes_low_first 0 w n)

  -- a cell stands after the columns before it, and its number fits
  cell_stands : (cs : List Column) (row : Row) → FitsRow sizes tables cs row → (c n : ℕ) → slice_get row c ≡ Some n
      → Stands (row_bytes sizes tables cs row) (widths ts (take c cs)) (little_bytes (width ts (get_or cs c U8)) n) × (n < 256 ^ width ts (get_or cs c U8))
  unfolding row_bytes widths FitsRow
  cell_stands [] [] fits c n e = absurd (none-some n e)
  cell_stands [] (m ∷ ms) fits c n e = absurd fits
  cell_stands (k ∷ ks) [] fits c n e = absurd fits
  cell_stands (k ∷ ks) (m ∷ ms) fits zero n e =
      let same : m ≡ n = same_Some m n e in
      rw (width_same k, ← same) (stands_first (little_bytes (laid.width sizes tables k) m) (row_bytes sizes tables ks ms), fits.0)
  cell_stands (k ∷ ks) (m ∷ ms) fits (suc c) n e =
      let front : List ℕ = little_bytes (laid.width sizes tables k) m in
      let back : List ℕ = row_bytes sizes tables ks ms in
      let rest = cell_stands ks ms fits.1 c n e in
      let place : length front + widths ts (take c ks) ≡ width ts k + widths ts (take c ks) = omega (arith, width_same k, length-bytes_low_first 0 (laid.width sizes tables k) m) in
      (stands_at (front ++ back) _ _ _ place (stands_in (front ++ back) back _ (length front) (widths ts (take c ks)) (stands_second front back) rest.0), rest.1)

  -- ---- tables

  row_lengths : (t : ℕ) (r : ℕ) (row : Row) → slice_get (get_or tables t []) r ≡ Some row → length (row_bytes sizes tables (columns_of t) row) ≡ row_width ts t
  unfolding row_width
  row_lengths t r row e = length_row (columns_of t) row (h.rows t r row e)

  length_table : (t : ℕ) → length (table_bytes sizes tables t (get_or tables t [])) ≡ rows_of ts t * row_width ts t
  length_table t = rw (rows_read sizes tables h t) (length_items (row_bytes sizes tables (columns_of t)) (row_width ts t) (get_or tables t []) (row_lengths t))

  pub table_place_is : (t : ℕ) → table_place ts t ≡ count_place ts 64 + length (tables_bytes sizes tables 0 (take t tables))
  unfolding table_place tables_bytes
  table_place_is zero = omega arith
  table_place_is (suc t) =
      let here : length (table_bytes sizes tables (0 + t) (get_or tables t [])) ≡ length (table_bytes sizes tables t (get_or tables t [])) =
      ap (λ (u : ℕ). length (table_bytes sizes tables u (get_or tables t []))) (omega arith) in
      omega (arith, table_place_is t, tables_more sizes tables 0 tables t, here, length_table t)

  pub tables_end : table_place ts 45 ≡ length (head sizes tables h ++ rows_bytes sizes tables h)
  tables_end =
      let all : take 45 tables ≡ tables = take_all 45 tables (omega (arith, h.count)) in
      let same : length (tables_bytes sizes tables 0 (take 45 tables)) ≡ length (tables_bytes sizes tables 0 tables) = ap (λ (xs : Tables). length (tables_bytes sizes tables 0 xs)) all in
      omega (arith, table_place_is 45, same, length_head sizes tables h, length-append (head sizes tables h) (rows_bytes sizes tables h))

  table_stands : (t : ℕ) (r : Row) (rs : List Row) → get_or tables t [] ≡ r ∷ rs → Stands ts (table_place ts t) (table_bytes sizes tables t (r ∷ rs))
  table_stands t r rs e =
      let rows : List Row = r ∷ rs in
      let front : List ℕ = head sizes tables h in
      let back : List ℕ = rows_bytes sizes tables h in
      let at : ℕ = length (tables_bytes sizes tables 0 (take t tables)) in
      let here : 0 + t ≡ t = omega arith in
      let p : Stands back at (table_bytes sizes tables (0 + t) rows) = tables_stand sizes tables 0 tables t rows (table_within sizes tables h t r rs e) in
      let place : 0 + (length front + at) ≡ table_place ts t = omega (arith, table_place_is t, length_head sizes tables h) in
      stands_at ts _ _ _ place
      (stands_in ts (front ++ back) _ 0 (length front + at) (all_stand sizes tables h) (stands_in (front ++ back) back _ (length front) at (stands_second front back) (subst (λ (u : ℕ). Stands back at (table_bytes sizes tables u rows)) here p)))

  -- ---- cells

  read_in : (t r c n : ℕ) (row : Row) (rows : List Row) → get_or tables t [] ≡ rows → slice_get rows r ≡ Some row → slice_get row c ≡ Some n → cell_number ts t (suc r) c ≡ n
  unfolding cell_number cell_place row_place column_of row_width
  read_in t r c n row [] e f g = absurd (none-some row f)
  read_in t r c n row (first ∷ more) e f g =
      let rows : List Row = first ∷ more in
      let cs : List Column = columns_of t in
      let here : slice_get (get_or tables t []) r ≡ Some row = ap (λ (xs : List Row). slice_get xs r) e ∙ f in
      let cell = cell_stands cs row (h.rows t r row here) c n g in
      let each : (k : ℕ) (x : Row) → slice_get rows k ≡ Some x → length (row_bytes sizes tables cs x) ≡ widths ts cs = λ k x i. row_lengths t k x (ap (λ (xs : List Row). slice_get xs k) e ∙ i) in
      let before : length (flat_map (row_bytes sizes tables cs) (take r rows)) ≡ (suc r - 1) * widths ts cs =
      length_items_before (row_bytes sizes tables cs) (widths ts cs) rows each r (omega (arith, slice_get_within rows r row f)) ∙ ap (λ (k : ℕ). k * widths ts cs) (omega arith) in
      let in_table : Stands (table_bytes sizes tables t rows) ((suc r - 1) * widths ts cs) (row_bytes sizes tables cs row) =
      stands_at (table_bytes sizes tables t rows) _ _ _ before (item_stands (row_bytes sizes tables cs) rows r row f) in
      let in_stream : Stands ts (table_place ts t + (suc r - 1) * widths ts cs) (row_bytes sizes tables cs row) =
      stands_in ts (table_bytes sizes tables t rows) _ (table_place ts t) _ (table_stands t first more e) in_table in
      number_stands (width ts (get_or cs c U8)) n _ ts cell.1
      (stands_in ts (row_bytes sizes tables cs row) _ (table_place ts t + (suc r - 1) * widths ts cs) (widths ts (take c cs)) in_stream cell.0)

  pub cell_read : (t r c n : ℕ) (row : Row) → slice_get (get_or tables t []) r ≡ Some row → slice_get row c ≡ Some n → cell_number ts t (suc r) c ≡ n
  cell_read t r c n row f g = read_in t r c n row (get_or tables t []) refl f g
