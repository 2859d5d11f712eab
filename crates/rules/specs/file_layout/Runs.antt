-- Runs that have a spelling (II.24.2.6). The index of a run's first row has two bytes where the run's table has fewer than 2^16
-- rows. So a run that begins after the last of exactly 65535 rows has none: its first row is 65536.
use Rattle.std.specs.Prelude.{◌≡◌, ℕ, ◌^◌, Bool, nat_lt, ◌&&◌, List, slice_get, Some, if◌then◌else◌}
use Rattle.std.specs.List.{list_all}
use Rattle.il_base.specs.declared.table.TheConstants.{FIELD, METHOD_DEF, PARAM, EVENT, PROPERTY}
use Rattle.il_base.specs.declared.world_model.record.AsmRec.{AsmRec}
use Rattle.il_base.specs.world_model.Records.{rows_in}

-- the first row of a run fits the width of an index into a table of so many rows
abbrev pub run_fits : ℕ → ℕ → Bool
run_fits count first = nat_lt first (if nat_lt count 0x10000 then 2 ^ 16 else 2 ^ 32)

abbrev pub runs_fit : {A : Type 0} → ℕ → (A → ℕ) → List A → Bool
runs_fit count first rows = list_all (λ row. run_fits count (first row)) rows

-- each run of a record has a spelling
unfoldable pub runs_have_spelling : AsmRec → Bool
runs_have_spelling rec =
    runs_fit (rows_in rec FIELD) (λ row. row.field_list_first) rec.type_def
    && runs_fit (rows_in rec METHOD_DEF) (λ row. row.method_list_first) rec.type_def
    && runs_fit (rows_in rec PARAM) (λ row. row.param_list_first) rec.method_def
    && runs_fit (rows_in rec EVENT) (λ row. row.event_list_first) rec.event_map
    && runs_fit (rows_in rec PROPERTY) (λ row. row.property_list_first) rec.property_map

-- The number of rows at which a run has no spelling. A writer that is given such a record answers with the limit on rows, 5, and
-- this number.
abbrev pub unspelled_rows : ℕ
unspelled_rows = 65535

-- a run begins after the last of exactly so many rows
abbrev pub BeginsAfterAll : {A : Type 0} → ℕ → (A → ℕ) → List A → Type 0
BeginsAfterAll {A = A} count first rows = (count ≡ unspelled_rows) × (k : ℕ) × (row : A) × (slice_get rows k ≡ Some row) × (first row ≡ 65536)
