-- What is read of rows whose cells are laid out: the values of a record's rows, by their columns.
use Rattle.std.proofs.Common.{◌≡◌, ℕ, zero, suc, ◌+◌, true, false, Bool, cond, List, [], ◌∷◌, map, length, get_or, Option, Some, None, refl, sym, ap, ◌∙◌, arith, eqb-true}
use Rattle.std.specs.Prelude.{slice_get, ◌==◌}
use Rattle.std.proofs.lemmas.Bool.{eqb-false}
use Rattle.std.proofs.lemmas.List.{length-map}
use Rattle.std.proofs.lemmas.Option.{none-some, same_Some, slice_get_within}
use Rattle.il_base.specs.declared.cli_format.column.Column.{Column}
use Rattle.il_base.specs.declared.cli_format.column.Column.TheVariants.{U8, Index, IndexOrNone, Coded, CodedOrNone}
use Rattle.il_base.specs.declared.cli_format.column.Column.TheVariants as column
use Rattle.il_base.specs.cli_format.Columns.{columns_of}
use Rattle.il_base.specs.cli_format.Tables.{column_of}
use Rattle.il_base.specs.declared.world_model.record.AsmRec.{AsmRec}
use Rattle.il_base.specs.world_model.Records.{rows_in, Names, AreRuns}
use Rattle.rules.specs.record_format.Cells.{number_in, text_in, blob_in, guid_in, token_in, token_by, count_of, run_end, all_rows}
use Rattle.rules.specs.declared.record_layout.value.Value.{Value}
use Rattle.rules.specs.declared.record_layout.value.Value.TheVariants as value
use Rattle.rules.specs.record_layout.Values.{token_number, cell_in, row_cells}
use Rattle.rules.specs.record_layout.Tables.{values_of, cells_of}
use Rattle.file_laws.specs.written_tables.Written.{IsText}
use Rattle.file_laws.proofs.lemmas.layout_laws.ColumnFits.{FitsValue, FitsRow}
use Rattle.file_laws.proofs.lemmas.layout_laws.Within.{Within}
use Rattle.file_laws.proofs.lemmas.layout_laws.RowsFit.{rows_fit}
use Rattle.file_laws.proofs.lemmas.layout_laws.Lists.{mapped, element, rows_read}
use Rattle.file_laws.proofs.lemmas.layout_laws.Tokens.{HoldsToken, token_again}
use Rattle.file_laws.proofs.lemmas.layout_laws.ReadBack.{Reads, read_number, read_text, read_blob, read_guid}
use Rattle.file_laws.proofs.lemmas.layout_laws.TablesFit.{table_cells, count_values, same_count}

-- ---- what a row's columns give

abbrev pub ReadsAs : List ℕ → ℕ → ℕ → ℕ → Value → Type 0
ReadsAs m t c r (value.Number n) = number_in m t c r ≡ n
ReadsAs m t c r (value.Text x) = text_in m t c r ≡ x
ReadsAs m t c r (value.Blob x) = blob_in m t c r ≡ x
ReadsAs m t c r (value.Guid x) = guid_in m t c r ≡ x
ReadsAs m t c r (value.Token token) = token_in m t c r ≡ token

abbrev pub ReadsAt : List ℕ → ℕ → ℕ → ℕ → Option Value → Type 0
ReadsAt m t c r None = Unit {0}
ReadsAt m t c r (Some v) = ReadsAs m t c r v

-- in each column what the row has there
abbrev pub RowReads : List ℕ → ℕ → ℕ → List Value → Type 0
RowReads m t r vs = (c : ℕ) → ReadsAt m t c r (slice_get vs c)

-- ---- values and cells by their columns

cell_at : (rec : AsmRec) (cs : List Column) (vs : List Value) (c : ℕ) (v : Value) → FitsRow rec cs vs → slice_get vs c ≡ Some v → slice_get (row_cells cs vs) c ≡ Some (cell_in (get_or cs c U8) v)
unfolding row_cells
cell_at rec [] [] c v h e = absurd (none-some v e)
cell_at rec [] (w ∷ ws) c v h e = absurd h
cell_at rec (d ∷ cs) [] c v h e = absurd h
cell_at rec (d ∷ cs) (w ∷ ws) zero v h e = ap (λ (x : Value). Some (cell_in d x)) (same_Some w v e)
cell_at rec (d ∷ cs) (w ∷ ws) (suc c) v h e = cell_at rec cs ws c v h.1 e

value_at : (rec : AsmRec) (cs : List Column) (vs : List Value) (c : ℕ) (v : Value) → FitsRow rec cs vs → slice_get vs c ≡ Some v → FitsValue rec (get_or cs c U8) v
value_at rec [] [] c v h e = absurd (none-some v e)
value_at rec [] (w ∷ ws) c v h e = absurd h
value_at rec (d ∷ cs) [] c v h e = absurd h
value_at rec (d ∷ cs) (w ∷ ws) zero v h e = let same : w ≡ v = same_Some w v e in rw (← same) h.0
value_at rec (d ∷ cs) (w ∷ ws) (suc c) v h e = value_at rec cs ws c v h.1 e

is_text : (rec : AsmRec) (c : Column) (x : List ℕ) → FitsValue rec c (value.Text x) → IsText x
is_text rec column.Text x h = h
is_text rec c x h = absurd h

is_token : (rec : AsmRec) (c : Column) (token : ℕ) → FitsValue rec c (value.Token token) → HoldsToken c × Names rec c token
is_token rec (Index t) token h = (tt, h)
is_token rec (IndexOrNone t) token h = (tt, h)
is_token rec (Coded index) token h = (tt, h)
is_token rec (CodedOrNone index) token h = (tt, h)
is_token rec c token h = absurd h

-- ---- a record's rows

module _ (m : List ℕ) (rec : AsmRec) (h : Within rec) (reads : Reads m (cells_of rec)) where
  row_there : (t k : ℕ) (vs : List Value) → slice_get (get_or (values_of rec) t []) k ≡ Some vs → slice_get (get_or (cells_of rec) t []) k ≡ Some (row_cells (columns_of t) vs)
  row_there t k vs e = rw (table_cells rec t) (mapped (row_cells (columns_of t)) (get_or (values_of rec) t []) k vs e)

  value_read : (t k c : ℕ) (vs : List Value) (v : Value) → slice_get (get_or (values_of rec) t []) k ≡ Some vs → slice_get vs c ≡ Some v → ReadsAs m t c (suc k) v
  unfolding token_in column_of
  value_read t k c vs (value.Number n) e f =
      read_number m (cells_of rec) reads t k c (row_cells (columns_of t) vs) (row_there t k vs e) n (cell_at rec (columns_of t) vs c (value.Number n) ((rows_fit rec h t).fit k vs e) f)
  value_read t k c vs (value.Text x) e f =
      read_text m (cells_of rec) reads t k c (row_cells (columns_of t) vs) (row_there t k vs e) x (cell_at rec (columns_of t) vs c (value.Text x) ((rows_fit rec h t).fit k vs e) f)
      (is_text rec (get_or (columns_of t) c U8) x (value_at rec (columns_of t) vs c (value.Text x) ((rows_fit rec h t).fit k vs e) f))
  value_read t k c vs (value.Blob x) e f =
      read_blob m (cells_of rec) reads t k c (row_cells (columns_of t) vs) (row_there t k vs e) x (cell_at rec (columns_of t) vs c (value.Blob x) ((rows_fit rec h t).fit k vs e) f)
  value_read t k c vs (value.Guid x) e f =
      read_guid m (cells_of rec) reads t k c (row_cells (columns_of t) vs) (row_there t k vs e) x (cell_at rec (columns_of t) vs c (value.Guid x) ((rows_fit rec h t).fit k vs e) f)
  value_read t k c vs (value.Token token) e f =
      let col : Column = get_or (columns_of t) c U8 in
      let number = read_number m (cells_of rec) reads t k c (row_cells (columns_of t) vs) (row_there t k vs e) (token_number (get_or (columns_of t) c U8) token)
      (cell_at rec (columns_of t) vs c (value.Token token) ((rows_fit rec h t).fit k vs e) f) in
      let is = is_token rec (get_or (columns_of t) c U8) token (value_at rec (columns_of t) vs c (value.Token token) ((rows_fit rec h t).fit k vs e) f) in
      ap (token_by (get_or (columns_of t) c U8)) number ∙ token_again rec (get_or (columns_of t) c U8) token is.0 is.1

  read_by : (t k c : ℕ) (vs : List Value) (o : Option Value) → slice_get (get_or (values_of rec) t []) k ≡ Some vs → slice_get vs c ≡ o → ReadsAt m t c (suc k) o
  read_by t k c vs None e f = tt
  read_by t k c vs (Some v) e f = value_read t k c vs v e f

  pub row_reads : (t k : ℕ) (vs : List Value) → slice_get (get_or (values_of rec) t []) k ≡ Some vs → RowReads m t (suc k) vs
  row_reads t k vs e c = read_by t k c vs (slice_get vs c) e refl

  -- ---- a table

  pub counted : (t : ℕ) → count_of m t ≡ rows_in rec t
  unfolding count_of
  counted t = reads.rows t ∙ sym (same_count rec h t)

  pub long : {A : Type 0} (t : ℕ) (values : A → List Value) (rows : List A) → get_or (values_of rec) t [] ≡ map values rows → count_of m t ≡ length rows
  unfolding count_of
  long t values rows is = reads.rows t ∙ count_values rec h t ∙ ap length is ∙ length-map rows values

  pub at_row : {A : Type 0} (t : ℕ) (values : A → List Value) (rows : List A) → get_or (values_of rec) t [] ≡ map values rows → (k : ℕ) (row : A) → slice_get rows k ≡ Some row → RowReads m t (suc k) (values row)
  at_row t values rows is k row e = row_reads t k (values row) (rw is (mapped values rows k row e))

  -- its rows, where each is read again
  pub table_read : {A : Type 0} (t : ℕ) (row_of : ℕ → A) (values : A → List Value) (rows : List A) → get_or (values_of rec) t [] ≡ map values rows
      → ((k : ℕ) (row : A) → slice_get rows k ≡ Some row → RowReads m t (suc k) (values row) → row_of (suc k) ≡ row) → all_rows m t row_of ≡ rows
  table_read t row_of values rows is again =
      rows_read row_of rows (count_of m t) (long t values rows is) (λ k row e. again k row e (at_row t values rows is k row e))

  -- ---- the ends of runs

  pub run_read : {A : Type 0} (t c target : ℕ) (values : A → List Value) (first end : A → ℕ) (rows : List A) → get_or (values_of rec) t [] ≡ map values rows
      → ((row : A) → slice_get (values row) c ≡ Some (value.Number (first row))) → AreRuns (rows_in rec target) first end rows
      → (k : ℕ) (row : A) → slice_get rows k ≡ Some row → run_end m t c target (suc k) ≡ end row
  unfolding run_end
  run_read {A = A} t c target values first end rows is firsts runs k row e = by_test (suc k == count_of m t) refl
    where
      by_test : (b : Bool) → (suc k == count_of m t) ≡ b → cond b (count_of m target + 1) (number_in m t c (suc k + 1)) ≡ end row
      by_test true f =
          let last = eqb-true (suc k) (count_of m t) f in
          omega (arith, runs.closes k row e (last ∙ long t values rows is), counted target)
      by_test false f =
          let other = eqb-false (suc k) (count_of m t) f in
          let within = slice_get_within rows k row e in
          let next = element rows (suc k) (omega (arith, other, within, long t values rows is)) in
          let place : suc k + 1 ≡ suc (suc k) = omega arith in
          rw place (value_read t (suc k) c (values next.0) (value.Number (first next.0)) (rw is (mapped values rows (suc k) next.0 next.1)) (firsts next.0) ∙ sym (runs.meets k row next.0 e next.1))
