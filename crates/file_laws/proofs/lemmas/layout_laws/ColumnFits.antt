-- Rows that can be laid out, by their columns alone: each value fits its column and names what is there, runs rise from row to
-- row, and sorted tables are in order.
use Rattle.std.specs.Prelude.{ℕ, ◌+◌, ◌<◌, ◌≤◌, ◌^◌, not, nat_le, ◌||◌, List, [], ◌∷◌, get_or, IsTrue}
use Rattle.il_base.specs.declared.cli_format.column.Column.{Column}
use Rattle.il_base.specs.declared.cli_format.column.Column.TheVariants.{U8, U16, U32, Index, IndexOrNone, Run, Coded, CodedOrNone}
use Rattle.il_base.specs.declared.cli_format.column.Column.TheVariants as column
use Rattle.il_base.specs.cli_format.Columns.{columns_of, sort_key_of}
use Rattle.il_base.specs.cli_format.Metadata.{is_run, in_order}
use Rattle.il_base.specs.declared.world_model.record.AsmRec.{AsmRec}
use Rattle.il_base.specs.world_model.Records.{rows_in, Names, Each, EachPair}
use Rattle.rules.specs.file_layout.Runs.{run_fits}
use Rattle.rules.specs.declared.record_layout.value.Value.{Value}
use Rattle.rules.specs.declared.record_layout.value.Value.TheVariants as value
use Rattle.rules.specs.record_layout.Values.{token_number}
use Rattle.file_laws.specs.written_tables.Written.{IsText}
use Rattle.file_laws.specs.layout_laws.Columns.{IsGuid}

-- ---- one value

-- the first of a run in a table of so many rows: one of them or the one after the last, with a spelling
abbrev pub IsRunStart : ℕ → ℕ → Type 0
IsRunStart count n = (1 ≤ n) × (n ≤ count + 1) × IsTrue (run_fits count n)

-- a number of the column's width, a text, a GUID, a token that names a row; how long blobs are is limited by the file's length
abbrev pub FitsValue : AsmRec → Column → Value → Type 0
FitsValue rec U8 (value.Number n) = n < 2 ^ 8
FitsValue rec U16 (value.Number n) = n < 2 ^ 16
FitsValue rec U32 (value.Number n) = n < 2 ^ 32
FitsValue rec (Run t) (value.Number n) = IsRunStart (rows_in rec t) n
FitsValue rec column.Text (value.Text t) = IsText t
FitsValue rec column.Blob (value.Blob b) = Unit {0}
FitsValue rec column.Guid (value.Guid g) = IsGuid g
FitsValue rec (Index t) (value.Token token) = Names rec (Index t) token
FitsValue rec (IndexOrNone t) (value.Token token) = Names rec (IndexOrNone t) token
FitsValue rec (Coded index) (value.Token token) = Names rec (Coded index) token
FitsValue rec (CodedOrNone index) (value.Token token) = Names rec (CodedOrNone index) token
FitsValue rec c v = ⊥

-- ---- a row

-- one value for each column
abbrev pub FitsRow : AsmRec → List Column → List Value → Type 0
FitsRow rec [] [] = Unit {0}
FitsRow rec [] (v ∷ vs) = ⊥
FitsRow rec (c ∷ cs) [] = ⊥
FitsRow rec (c ∷ cs) (v ∷ vs) = FitsValue rec c v × FitsRow rec cs vs

-- the number that a value has in its column; items of heaps have theirs once the heaps are made
abbrev pub value_number : Column → Value → ℕ
value_number c (value.Number n) = n
value_number c (value.Token token) = token_number c token
value_number c _ = 0

-- ---- a row and the next

-- no run begins before that of the row above
abbrev pub RunsRise : List Column → List Value → List Value → Type 0
RunsRise (c ∷ cs) (v ∷ vs) (w ∷ ws) = IsTrue (not (is_run c) || nat_le (value_number c v) (value_number c w)) × RunsRise cs vs ws
RunsRise _ _ _ = Unit {0}

-- the number in a column, from 0
abbrev pub number_at : List Column → List Value → ℕ → ℕ
number_at cs vs c = value_number (get_or cs c U8) (get_or vs c (value.Number 0))

-- in the order of the table's sort key
abbrev pub IsSorted : ℕ → List Value → List Value → Type 0
IsSorted t row next = IsTrue (in_order (sort_key_of t) (number_at (columns_of t) row) (number_at (columns_of t) next))

-- ---- a table by its number

pub record RowsFit (rec : AsmRec) (t : ℕ) (rows : List (List Value)) : Type 0 where
  pub fit : Each (FitsRow rec (columns_of t)) rows
  pub rise : EachPair (RunsRise (columns_of t)) rows
  pub sorted : EachPair (IsSorted t) rows
