-- Values that fit their columns are cells that do.
use Rattle.std.proofs.Common.{◌≡◌, ℕ, zero, suc, ◌/◌, ◌%◌, ◌≤◌, inl, inr, true, List, [], ◌∷◌, get_or, refl, ap, subst, ◌∙◌, arith}
use Rattle.il_base.specs.declared.cli_format.column.Column.{Column}
use Rattle.il_base.specs.declared.cli_format.column.Column.TheVariants.{U8, U16, U32, Index, IndexOrNone, Run, Coded, CodedOrNone}
use Rattle.il_base.specs.declared.cli_format.column.Column.TheVariants as column
use Rattle.il_base.specs.declared.cli_format.key.SortKey.{SortKey}
use Rattle.il_base.specs.declared.cli_format.key.SortKey.TheVariants.{Unsorted, ByOne, Strictly, ByTwo}
use Rattle.il_base.specs.cli_format.Columns.{columns_of, sort_key_of}
use Rattle.il_base.specs.cli_format.Coded.{targets_of}
use Rattle.il_base.specs.cli_format.Tokens.{coded_of}
use Rattle.il_base.specs.cli_format.Metadata.{in_order}
use Rattle.il_base.specs.declared.world_model.record.AsmRec.{AsmRec}
use Rattle.il_base.specs.world_model.Records.{rows_in, names_row, names}
use Rattle.rules.specs.declared.file_layout.cell.Cell.TheVariants as cell
use Rattle.rules.specs.file_layout.Cells.{CellTables}
use Rattle.rules.specs.declared.record_layout.value.Value.{Value}
use Rattle.rules.specs.declared.record_layout.value.Value.TheVariants as value
use Rattle.rules.specs.record_layout.Values.{cell_in, row_cells}
use Rattle.file_laws.proofs.lemmas.layout_laws.ColumnFits.{FitsValue, FitsRow, IsRunStart, value_number, number_at, RunsRise, IsSorted}
use Rattle.file_laws.proofs.lemmas.layout_laws.Tokens.{row_named, in_table, coded_named, none_coded, none_or}
use Rattle.file_laws.proofs.lemmas.layout_laws.Cells.{count, plain, FitsCell, FitsCells, CellsRise, CellsSorted}

module _ (cells : CellTables) (rec : AsmRec) (same : (t : ℕ) → rows_in rec t ≡ count cells t) where
  -- ---- one value

  index_fits : (t token : ℕ) → names_row rec (t ∷ []) token ≡ true → (1 ≤ token % 16777216) × (token % 16777216 ≤ count cells t)
  index_fits t token h =
      let n = row_named rec (t ∷ []) token h in
      let table = in_table rec t token n in
      let rows : rows_in rec (token / 16777216) ≡ count cells t = rw table (same t) in
      (n.low, omega (arith, n.high, rows))

  run_fits_too : (t n : ℕ) → IsRunStart (rows_in rec t) n → IsRunStart (count cells t) n
  run_fits_too t n h = subst (λ (k : ℕ). IsRunStart k n) (same t) h

  value_fits : (c : Column) (v : Value) → FitsValue rec c v → FitsCell cells c (cell_in c v)
  unfolding names
  value_fits U8 (value.Number n) h = h
  value_fits U16 (value.Number n) h = h
  value_fits U32 (value.Number n) h = h
  value_fits (Run t) (value.Number n) h = run_fits_too t n h
  value_fits column.Text (value.Text t) h = h
  value_fits column.Blob (value.Blob b) h = tt
  value_fits column.Guid (value.Guid g) h = h
  value_fits (Index t) (value.Token token) h = index_fits t token h
  value_fits (IndexOrNone t) (value.Token token) h = elim (none_or token (names_row rec (t ∷ []) token) h) [
    | inl e ↦ rw e (omega arith)
    | inr f ↦ (index_fits t token f).1
  ]
  value_fits (Coded index) (value.Token token) h = coded_named cells rec index token same h
  value_fits (CodedOrNone index) (value.Token token) h = elim (none_or token (names_row rec (targets_of index) token) h) [
    | inl e ↦ inl (ap (coded_of index) e ∙ none_coded index)
    | inr f ↦ inr (coded_named cells rec index token same f)
  ]
  value_fits c v h = absurd h

  -- ---- a row

  pub row_fits : (cs : List Column) (vs : List Value) → FitsRow rec cs vs → FitsCells cells cs (row_cells cs vs)
  unfolding row_cells
  row_fits [] [] h = tt
  row_fits [] (v ∷ vs) h = absurd h
  row_fits (c ∷ cs) [] h = absurd h
  row_fits (c ∷ cs) (v ∷ vs) h = (value_fits c v h.0, row_fits cs vs h.1)

-- ---- numbers of values

plain_value : (c : Column) (v : Value) → plain (cell_in c v) ≡ value_number c v
plain_value c (value.Number n) = refl
plain_value c (value.Text t) = refl
plain_value c (value.Blob b) = refl
plain_value c (value.Guid g) = refl
plain_value c (value.Token token) = refl

pub row_rises : (rec : AsmRec) (cs : List Column) (vs ws : List Value) → FitsRow rec cs vs → FitsRow rec cs ws → RunsRise cs vs ws → CellsRise cs (row_cells cs vs) (row_cells cs ws)
unfolding row_cells
row_rises rec [] vs ws f g h = tt
row_rises rec (c ∷ cs) [] ws f g h = absurd f
row_rises rec (c ∷ cs) (v ∷ vs) [] f g h = absurd g
row_rises rec (c ∷ cs) (v ∷ vs) (w ∷ ws) f g h = (rw (plain_value c v, plain_value c w) h.0, row_rises rec cs vs ws f.1 g.1 h.1)

plain_at : (rec : AsmRec) (cs : List Column) (vs : List Value) (k : ℕ) → FitsRow rec cs vs → plain (get_or (row_cells cs vs) k (cell.Number 0)) ≡ number_at cs vs k
unfolding row_cells
plain_at rec [] [] k f = refl
plain_at rec [] (v ∷ vs) k f = absurd f
plain_at rec (c ∷ cs) [] k f = absurd f
plain_at rec (c ∷ cs) (v ∷ vs) zero f = plain_value c v
plain_at rec (c ∷ cs) (v ∷ vs) (suc k) f = plain_at rec cs vs k f.1

-- the order goes by these numbers alone
same_order : (key : SortKey) (a b x y : ℕ → ℕ) → ((c : ℕ) → a c ≡ x c) → ((c : ℕ) → b c ≡ y c) → in_order key x y ≡ true → in_order key a b ≡ true
unfolding in_order
same_order Unsorted a b x y f g h = refl
same_order (ByOne c) a b x y f g h = rw (f c, g c) h
same_order (Strictly c) a b x y f g h = rw (f c, g c) h
same_order (ByTwo c d) a b x y f g h = rw (f c, g c, f d, g d) h

pub row_sorted : (rec : AsmRec) (t : ℕ) (vs ws : List Value) → FitsRow rec (columns_of t) vs → FitsRow rec (columns_of t) ws → IsSorted t vs ws
    → CellsSorted t (row_cells (columns_of t) vs) (row_cells (columns_of t) ws)
row_sorted rec t vs ws f g h =
    same_order (sort_key_of t) (λ c. plain (get_or (row_cells (columns_of t) vs) c (cell.Number 0))) (λ c. plain (get_or (row_cells (columns_of t) ws) c (cell.Number 0)))
    (number_at (columns_of t) vs) (number_at (columns_of t) ws) (λ c. plain_at rec (columns_of t) vs c f) (λ c. plain_at rec (columns_of t) ws c g) h
