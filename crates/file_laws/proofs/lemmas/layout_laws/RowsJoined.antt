-- Rows of a table fit its columns where their values do, and name rows that are there.
use Rattle.std.proofs.Common.{◌≡◌, ◌⊎◌, inl, inr, ℕ, zero, suc, ◌+◌, ◌%◌, ◌<◌, ◌≤◌, Bool, true, false, List, [], ◌∷◌, map, get_or, Some, refl, sym, ap, subst, ◌∙◌, arith}
use Rattle.std.specs.Prelude.{slice_get, nat_le, nat_lt, ◌||◌, ◌&&◌, ◌==◌, IsTrue}
use Rattle.std.proofs.lemmas.Bool.{and_from, le-leb, lt-ltb, eq-eqb, or_right}
use Rattle.std.proofs.lemmas.Option.{none-some}
use Rattle.il_base.specs.declared.cli_format.column.Column.{Column}
use Rattle.il_base.specs.declared.cli_format.column.Column.TheVariants.{U8, U16, U32, Index, IndexOrNone, Run, Coded, CodedOrNone}
use Rattle.il_base.specs.declared.cli_format.column.Column.TheVariants as column
use Rattle.il_base.specs.cli_format.Columns.{columns_of}
use Rattle.il_base.specs.declared.world_model.record.AsmRec.{AsmRec}
use Rattle.il_base.specs.world_model.Records.{rows_in, names, Names, Each, EachPair, AreRuns}
use Rattle.rules.specs.file_layout.Runs.{run_fits, runs_fit}
use Rattle.rules.specs.declared.record_layout.value.Value.{Value}
use Rattle.rules.specs.declared.record_layout.value.Value.TheVariants as value
use Rattle.rules.specs.record_layout.Tables.{with_rvas}
use Rattle.file_laws.specs.layout_laws.Columns.{FitsColumn, FitsColumns, TableFits}
use Rattle.file_laws.proofs.lemmas.layout_laws.Lists.{mapped, of_mapped, one_of_all}
use Rattle.file_laws.proofs.lemmas.layout_laws.Tokens.{row_named, in_table}
use Rattle.file_laws.proofs.lemmas.layout_laws.ColumnFits.{IsRunStart, FitsValue, FitsRow, RunsRise, IsSorted, RowsFit}

-- ---- what a value names

-- a token a row, the first of a run one of the rows or the one after the last
abbrev pub NamesAt : AsmRec → Column → Value → Type 0
NamesAt rec (Index t) (value.Token token) = Names rec (Index t) token
NamesAt rec (IndexOrNone t) (value.Token token) = Names rec (IndexOrNone t) token
NamesAt rec (Coded index) (value.Token token) = Names rec (Coded index) token
NamesAt rec (CodedOrNone index) (value.Token token) = Names rec (CodedOrNone index) token
NamesAt rec (Run t) (value.Number n) = IsRunStart (rows_in rec t) n
NamesAt rec U8 (value.Number n) = Unit {0}
NamesAt rec U16 (value.Number n) = Unit {0}
NamesAt rec U32 (value.Number n) = Unit {0}
NamesAt rec column.Text (value.Text t) = Unit {0}
NamesAt rec column.Blob (value.Blob b) = Unit {0}
NamesAt rec column.Guid (value.Guid g) = Unit {0}
NamesAt rec c v = ⊥

abbrev pub NamesRow : AsmRec → List Column → List Value → Type 0
NamesRow rec [] [] = Unit {0}
NamesRow rec [] (v ∷ vs) = ⊥
NamesRow rec (c ∷ cs) [] = ⊥
NamesRow rec (c ∷ cs) (v ∷ vs) = NamesAt rec c v × NamesRow rec cs vs

value_fits : (rec : AsmRec) (c : Column) (v : Value) → FitsColumn c v → NamesAt rec c v → FitsValue rec c v
value_fits rec (Index t) (value.Token token) f n = n
value_fits rec (IndexOrNone t) (value.Token token) f n = n
value_fits rec (Coded index) (value.Token token) f n = n
value_fits rec (CodedOrNone index) (value.Token token) f n = n
value_fits rec (Run t) (value.Number k) f n = n
value_fits rec U8 (value.Number k) f n = f
value_fits rec U16 (value.Number k) f n = f
value_fits rec U32 (value.Number k) f n = f
value_fits rec column.Text (value.Text t) f n = f
value_fits rec column.Blob (value.Blob b) f n = tt
value_fits rec column.Guid (value.Guid g) f n = f
value_fits rec c v f n = absurd n

row_fits : (rec : AsmRec) (cs : List Column) (vs : List Value) → FitsColumns cs vs → NamesRow rec cs vs → FitsRow rec cs vs
row_fits rec [] [] f n = tt
row_fits rec [] (v ∷ vs) f n = absurd n
row_fits rec (c ∷ cs) [] f n = absurd n
row_fits rec (c ∷ cs) (v ∷ vs) f n = (value_fits rec c v f.0 n.0, row_fits rec cs vs f.1 n.1)

-- ---- a table

pub joined : {A : Type 0} (rec : AsmRec) (t : ℕ) (values : A → List Value) (rows : List A) → TableFits t (map values rows)
    → Each (λ row. NamesRow rec (columns_of t) (values row)) rows
    → EachPair (λ row next. RunsRise (columns_of t) (values row) (values next)) rows
    → EachPair (λ row next. IsSorted t (values row) (values next)) rows
    → RowsFit rec t (map values rows)
joined rec t values rows fits names rise sorted = record {
  fit = λ k vs e.
      let row = of_mapped values rows k vs e in
      rw (← row.2) (row_fits rec (columns_of t) (values row.0) (fits k (values row.0) (mapped values rows k row.0 row.1)) (names k row.0 row.1));
  rise = λ k vs ws e f.
      let row = of_mapped values rows k vs e in
      let next = of_mapped values rows (suc k) ws f in
      rw (← row.2, ← next.2) (rise k row.0 next.0 row.1 next.1);
  sorted = λ k vs ws e f.
      let row = of_mapped values rows k vs e in
      let next = of_mapped values rows (suc k) ws f in
      rw (← row.2, ← next.2) (sorted k row.0 next.0 row.1 next.1);
}

-- rows with the addresses that they have
with_own : {A : Type 0} (values : ℕ → A → List Value) (rva : A → ℕ) (rows : List A) → with_rvas values (map rva rows) rows ≡ map (λ (row : A). values (rva row) row) rows
unfolding with_rvas
with_own values rva [] = refl
with_own {A = A} values rva (row ∷ rows) = ap (λ (rest : List (List Value)). values (rva row) row ∷ rest) (with_own values rva rows)

pub with_these : {A : Type 0} (values : ℕ → A → List Value) (rva : A → ℕ) (rows : List A) (rvas : List ℕ) → map rva rows ≡ rvas → with_rvas values rvas rows ≡ map (λ (row : A). values (rva row) row) rows
with_these values rva rows rvas e = ap (λ (r : List ℕ). with_rvas values r rows) (sym e) ∙ with_own values rva rows

pub with_own_rows : {A : Type 0} (rec : AsmRec) (t : ℕ) (values : ℕ → A → List Value) (rva : A → ℕ) (rows : List A) (rvas : List ℕ) → map rva rows ≡ rvas → TableFits t (with_rvas values rvas rows)
    → Each (λ row. NamesRow rec (columns_of t) (values (rva row) row)) rows
    → EachPair (λ row next. RunsRise (columns_of t) (values (rva row) row) (values (rva next) next)) rows
    → EachPair (λ row next. IsSorted t (values (rva row) row) (values (rva next) next)) rows
    → RowsFit rec t (with_rvas values rvas rows)
with_own_rows {A = A} rec t values rva rows rvas e fits names rise sorted =
    let is = with_these values rva rows rvas e in
    subst (λ (xs : List (List Value)). RowsFit rec t xs) (sym is)
    (joined rec t (λ (row : A). values (rva row) row) rows (subst (λ (xs : List (List Value)). TableFits t xs) is fits) names rise sorted)

pub no_rows_fit : (rec : AsmRec) (t : ℕ) → RowsFit rec t []
no_rows_fit rec t = record {
  fit = λ k vs e. absurd (none-some vs e);
  rise = λ k vs ws e f. absurd (none-some vs e);
  sorted = λ k vs ws e f. absurd (none-some vs e);
}

-- ---- runs

pub run_start : {A : Type 0} {count : ℕ} (first end : A → ℕ) (rows : List A) → AreRuns count first end rows → IsTrue (runs_fit count first rows)
    → (k : ℕ) (row : A) → slice_get rows k ≡ Some row → IsRunStart count (first row)
run_start {count = count} first end rows runs spelled k row e =
    (runs.begins k row e, omega (arith, runs.never_falls k row e, runs.within k row e), one_of_all (λ x. run_fits count (first x)) rows k row spelled e)

pub run_rises : {A : Type 0} {count : ℕ} (first end : A → ℕ) (rows : List A) → AreRuns count first end rows
    → (k : ℕ) (row next : A) → slice_get rows k ≡ Some row → slice_get rows (suc k) ≡ Some next → nat_le (first row) (first next) ≡ true
run_rises first end rows runs k row next e f = le-leb (first row) (first next) (omega (arith, runs.never_falls k row e, runs.meets k row next e f))

-- ---- order

-- tokens of one table are in the order of their rows
pub index_order : (rec : AsmRec) (t a b : ℕ) → Names rec (Index t) a → Names rec (Index t) b → a ≤ b → nat_le (a % 16777216) (b % 16777216) ≡ true
unfolding names
index_order rec t a b n m le =
    let left = in_table rec t a (row_named rec (t ∷ []) a n) in
    let right = in_table rec t b (row_named rec (t ∷ []) b m) in
    le-leb (a % 16777216) (b % 16777216) (omega (arith, le, left, right))

pub index_rises : (rec : AsmRec) (t a b : ℕ) → Names rec (Index t) a → Names rec (Index t) b → a < b → nat_lt (a % 16777216) (b % 16777216) ≡ true
unfolding names
index_rises rec t a b n m lt =
    let left = in_table rec t a (row_named rec (t ∷ []) a n) in
    let right = in_table rec t b (row_named rec (t ∷ []) b m) in
    lt-ltb (a % 16777216) (b % 16777216) (omega (arith, lt, left, right))

left_holds : (a b : Bool) → a ≡ true → (a || b) ≡ true
left_holds true b e = refl
left_holds false b e = absurd cc

pub two_order : (a b x y : ℕ) → (a < b) ⊎ ((a ≡ b) × (x ≤ y)) → (nat_lt a b || (a == b && nat_le x y)) ≡ true
two_order a b x y (inl lt) = left_holds (nat_lt a b) (a == b && nat_le x y) (lt-ltb a b lt)
two_order a b x y (inr s) = or_right (nat_lt a b) (a == b && nat_le x y) (and_from (a == b) (nat_le x y) (eq-eqb a b s.0) (le-leb x y s.1))

-- ---- the tables by their numbers, the first of which has this one

abbrev pub AllFit : AsmRec → ℕ → List (List (List Value)) → Type 0
AllFit rec t [] = Unit {0}
AllFit rec t (rows ∷ more) = RowsFit rec t rows × AllFit rec (suc t) more

pub fit_at : (rec : AsmRec) (from : ℕ) (tables : List (List (List Value))) (t : ℕ) → AllFit rec from tables → RowsFit rec (from + t) (get_or tables t [])
fit_at rec from [] t h = no_rows_fit rec (from + t)
fit_at rec from (rows ∷ more) zero h =
    let same : from ≡ from + 0 = omega arith in
    subst (λ (n : ℕ). RowsFit rec n rows) same h.0
fit_at rec from (rows ∷ more) (suc t) h =
    let same : suc from + t ≡ from + suc t = omega arith in
    subst (λ (n : ℕ). RowsFit rec n (get_or more t [])) same (fit_at rec (suc from) more t h.1)
