-- The tables of cells can be laid out, and their cells are read back.
use Rattle.std.proofs.Common.{◌≡◌, ℕ, suc, ◌-◌, ◌^◌, ◌<◌, ◌≤◌, true, false, Bool, cond, List, [], ◌∷◌, map, length, get_or, Some, inl, inr, refl, ap, ◌∙◌, arith}
use Rattle.std.specs.Prelude.{slice_get, nat_lt}
use Rattle.std.proofs.lemmas.Bool.{ltb-true}
use Rattle.std.proofs.lemmas.List.{length-map}
use Rattle.rules.specs.file_layout.Runs.{run_fits}
use Rattle.file_laws.proofs.lemmas.layout_laws.ColumnFits.{IsRunStart}
use Rattle.std.proofs.Math.ListN.{get_or-map}
use Rattle.il_base.specs.declared.cli_format.column.Column.{Column}
use Rattle.il_base.specs.declared.cli_format.column.Column.TheVariants.{U8, U16, U32, Text, Blob, Guid, Index, IndexOrNone, Run, Coded, CodedOrNone}
use Rattle.il_base.specs.cli_format.Coded.{targets_of, tag_bits_of}
use Rattle.il_base.specs.cli_format.Columns.{columns_of}
use Rattle.rules.specs.declared.file_layout.cell.Cell.{Cell}
use Rattle.rules.specs.declared.file_layout.cell.Cell.TheVariants as cell
use Rattle.rules.specs.file_layout.Cells.{CellTables, Pools, pools_of, number_of, numbers_of}
use Rattle.rules.specs.file_layout.Laid.{sizes_of}
use Rattle.rules.specs.file_layout.TableStream as laid
use Rattle.rules.specs.file_layout.TableStream.{Row, Tables, rows_in, fewer}
use Rattle.file_laws.specs.written_tables.Written.{FitsRow, CanTables, Once}
use Rattle.file_laws.proofs.lemmas.layout_laws.Lists.{of_mapped}
use Rattle.file_laws.proofs.lemmas.layout_laws.Cells.{count, FitsCell, FitsCells, coded_fits}
use Rattle.file_laws.proofs.lemmas.layout_laws.Pools.{Fitting, Pooled, pooled, Heaped, known_sizes}

-- ---- the tables' numbers

abbrev pub row_numbers : Pools → List Cell → Row
row_numbers pools row = map (number_of pools) row

pub table_numbers : (pools : Pools) (cells : CellTables) (t : ℕ) → get_or (numbers_of pools cells) t [] ≡ map (row_numbers pools) (get_or cells t [])
unfolding numbers_of
table_numbers pools cells t = get_or-map (λ rows. map (row_numbers pools) rows) cells t []

pub same_count : (pools : Pools) (cells : CellTables) (t : ℕ) → rows_in (numbers_of pools cells) t ≡ count cells t
same_count pools cells t = ap length (table_numbers pools cells t) ∙ length-map (get_or cells t []) (row_numbers pools)

-- a row of a table, and the first of a run, fit the width of an index into it
below_width : (rows n : ℕ) → n ≤ rows → rows ≤ 2 ^ 20 → n < 256 ^ cond (nat_lt rows 0x10000) 2 4
below_width rows n le few = by_test (nat_lt rows 0x10000) refl
  where
    by_test : (b : Bool) → nat_lt rows 0x10000 ≡ b → n < 256 ^ cond b 2 4
    by_test true e = let less = ltb-true rows 0x10000 e in omega (arith, le, less)
    by_test false e = omega (arith, le, few)

run_width : (rows n : ℕ) → run_fits rows n ≡ true → n < 256 ^ cond (nat_lt rows 0x10000) 2 4
run_width rows n h = by_test (nat_lt rows 0x10000) h
  where
    by_test : (b : Bool) → nat_lt n (cond b (2 ^ 16) (2 ^ 32)) ≡ true → n < 256 ^ cond b 2 4
    by_test true e = let less = ltb-true n (2 ^ 16) e in omega (arith, less)
    by_test false e = let less = ltb-true n (2 ^ 32) e in omega (arith, less)

zero_low : (b : Bool) → 0 < 256 ^ cond b 2 4
zero_low true = omega arith
zero_low false = omega arith

module _ (cells : CellTables) (fit : Fitting cells) (h : Heaped (pools_of cells)) where
  abbrev pools : Pools
  pools = pools_of cells

  abbrev numbers : Tables
  numbers = numbers_of pools cells

  few_rows : (t : ℕ) → count cells t ≤ 2 ^ 20
  few_rows t = (fit.all t).few

  index_low : (n t : ℕ) → n ≤ count cells t → n < 256 ^ laid.index_width numbers t
  index_low n t le = below_width (rows_in numbers t) n (omega (arith, le, same_count pools cells t)) (omega (arith, few_rows t, same_count pools cells t))

  run_low : (n t : ℕ) → IsRunStart (count cells t) n → n < 256 ^ laid.index_width numbers t
  run_low n t h = run_width (rows_in numbers t) n (rw (same_count pools cells t) h.2)

  number_low : (c : Column) (x : Cell) → FitsCell cells c x → Pooled pools x → number_of pools x < 256 ^ laid.width (sizes_of pools) numbers c
  unfolding laid.width
  number_low U8 (cell.Number n) f p = omega (arith, f)
  number_low U16 (cell.Number n) f p = omega (arith, f)
  number_low U32 (cell.Number n) f p = omega (arith, f)
  number_low Text (cell.Text t) f p = h.text_low t p
  number_low Blob (cell.Blob b) f p = h.blob_low b p
  number_low Guid (cell.Guid g) f p = h.guid_low g p
  number_low (Index t) (cell.Number n) f p = index_low n t f.1
  number_low (IndexOrNone t) (cell.Number n) f p = index_low n t f
  number_low (Run t) (cell.Number n) f p = run_low n t f
  number_low (Coded index) (cell.Number n) f p = coded_fits cells numbers index n (same_count pools cells) few_rows f
  number_low (CodedOrNone index) (cell.Number n) (inl e) p = rw e (zero_low (fewer numbers (2 ^ (16 - tag_bits_of index)) (targets_of index)))
  number_low (CodedOrNone index) (cell.Number n) (inr f) p = coded_fits cells numbers index n (same_count pools cells) few_rows f
  number_low c x f p = absurd f

  row_fits : (cs : List Column) (xs : List Cell) → FitsCells cells cs xs → ((k : ℕ) (x : Cell) → slice_get xs k ≡ Some x → Pooled pools x) → FitsRow (sizes_of pools) numbers cs (row_numbers pools xs)
  unfolding FitsRow
  row_fits [] [] f p = tt
  row_fits [] (x ∷ xs) f p = absurd f
  row_fits (c ∷ cs) [] f p = absurd f
  row_fits (c ∷ cs) (x ∷ xs) f p = (number_low c x f.0 (p 0 x refl), row_fits cs xs f.1 (λ k y e. p (suc k) y e))

  pub tables_fit : ((xs : List (List ℕ)) → Once xs) → CanTables (sizes_of pools) numbers
  unfolding numbers_of
  tables_fit once = record {
    known_sizes = known_sizes pools;
    count = length-map cells (λ rows. map (row_numbers pools) rows) ∙ fit.tables;
    known = λ t e. table_numbers pools cells t ∙ ap (λ rows. map (row_numbers pools) rows) ((fit.all t).known e);
    few = λ t. omega (arith, same_count pools cells t, few_rows t);
    modules = same_count pools cells 0x00 ∙ fit.modules;
    assemblies = same_count pools cells 0x20 ∙ fit.assemblies;
    types = omega (arith, same_count pools cells 0x02, fit.types);
    rows = λ t r row e.
        let found = of_mapped (row_numbers pools) (get_or cells t []) r row (rw (table_numbers pools cells t) at e) in
        rw (← found.2) (row_fits (columns_of t) found.0 ((fit.all t).fits r found.0 found.1) (λ k x f. pooled once cells t r k found.0 x found.1 f));
  }
