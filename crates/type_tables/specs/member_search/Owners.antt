-- The types that hold the rows of a table in their runs (II.22.37).
use Rattle.std.specs.Prelude.{◌≡◌, ℕ, suc, ◌<◌, List, length, Bool, Option, None, slice_index_or}
use Rattle.std.specs.List.{position_from}
use Rattle.il_base.specs.declared.world_model.types.TypeDefRow.{TypeDefRow}
use Rattle.il_base.specs.declared.world_model.record.AsmRec.{AsmRec}
use Rattle.rules.specs.link_rules.Members.{is_in_run, owns_method, owns_field}
use Rattle.type_tables.specs.declared.member_search.owners.Run.{Run}

abbrev pub method_run : TypeDefRow → Run
method_run t = record { first = t.method_list_first; end = t.method_list_end }

abbrev pub field_run : TypeDefRow → Run
field_run t = record { first = t.field_list_first; end = t.field_list_end }

-- whether a row, from 1, is in a run
abbrev pub holds : ℕ → Run → Bool
holds row r = is_in_run r.first r.end row

-- the first of the runs that each row of a table is in
pub record AreOwners (runs : List Run) (rows : ℕ) (owners : List (Option ℕ)) : Type 0 where
  pub one_each : length owners ≡ rows
  pub owned : (k : ℕ) → k < rows → slice_index_or owners k None ≡ position_from (holds (suc k)) 0 runs

-- the first type whose run each method is in
abbrev pub AreMethodOwners : AsmRec → List (Option ℕ) → Type 0
AreMethodOwners rec owners = (k : ℕ) → k < length rec.method_def → slice_index_or owners k None ≡ position_from (owns_method (suc k)) 0 rec.type_def

-- the first type whose run each field is in
abbrev pub AreFieldOwners : AsmRec → List (Option ℕ) → Type 0
AreFieldOwners rec owners = (k : ℕ) → k < length rec.field → slice_index_or owners k None ≡ position_from (owns_field (suc k)) 0 rec.type_def
