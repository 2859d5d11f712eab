-- The rows that go with kept rows, by the lists of these.
use Rattle.std.specs.Prelude.{◌≡◌, ℕ, ◌+◌, ◌==◌, ◌||◌, List, [], ◌∷◌, ◌++◌, map, Option, if◌then◌else◌}
use Rattle.std.specs.List.{flat_map}
use Rattle.std.specs.Option.{option_and_then}
use Rattle.il_base.specs.declared.table.TheConstants as table
use Rattle.il_base.specs.declared.world_model.types.InterfaceImplRow.{InterfaceImplRow}
use Rattle.il_base.specs.declared.world_model.types.GenericParamRow.{GenericParamRow}
use Rattle.il_base.specs.declared.world_model.types.GenericParamConstraintRow.{GenericParamConstraintRow}
use Rattle.il_base.specs.declared.world_model.record.AsmRec.{AsmRec}
use Rattle.il_base.specs.world_model.Tokens.{table_of, index_in}
use Rattle.rules.specs.declared.link_rules.row_at.RowAt.{RowAt}
use Rattle.rules.specs.link_rules.Types.{at_row}
use Rattle.rules.specs.type_rules.Rows.{each_row}
use Rattle.rules.specs.mark_rules.Places.{impl_item}
use Rattle.rules.specs.merge_rules.Numbers.{Kept, inputs, kept_types, kept_methods, kept_fields, kept_properties, kept_events}
use Rattle.rules.specs.merge_rules.Rows.{SortedRow, all_rows, in_order, sorted_at, param_key, place_token, kept_params, kept_interfaces, kept_generic_params, kept_constraints}
use Rattle.merge_plan.specs.kept_tables.Places.{token_in, owner_in}

-- ---- interfaces

abbrev pub impl_by : List AsmRec → Kept → List RowAt → ℕ → ℕ → InterfaceImplRow → List SortedRow
impl_by recs kept types a k row = if kept (impl_item recs (at_row a k)) then sorted_at a k (λ token. token) (token_in table.TYPE_DEF types a row.class) else []

abbrev pub impls_of : List AsmRec → Kept → List RowAt → ℕ → AsmRec → List SortedRow
impls_of recs kept types a rec = each_row (impl_by recs kept types a) rec.interface_impl

abbrev pub impls_by : List AsmRec → Kept → List RowAt → List SortedRow
impls_by recs kept types = in_order (all_rows (λ rec. rec.interface_impl) (λ a rec k row. impl_by recs kept types a k row) recs)

-- ---- generic parameters

abbrev pub param_by : List RowAt → List RowAt → ℕ → ℕ → GenericParamRow → List SortedRow
param_by types methods a k row = sorted_at a k (param_key row.number) (owner_in types methods a row.owner)

abbrev pub params_in : List RowAt → List RowAt → ℕ → AsmRec → List SortedRow
params_in types methods a rec = each_row (param_by types methods a) rec.generic_param

abbrev pub params_by : List RowAt → List RowAt → List AsmRec → List SortedRow
params_by types methods recs = in_order (all_rows (λ rec. rec.generic_param) (λ a rec k row. param_by types methods a k row) recs)

-- ---- constraints

abbrev pub constraint_by : List RowAt → ℕ → ℕ → GenericParamConstraintRow → List SortedRow
constraint_by params a k row = sorted_at a k (λ token. token) (token_in table.GENERIC_PARAM params a row.owner)

abbrev pub constraints_in : List RowAt → ℕ → AsmRec → List SortedRow
constraints_in params a rec = each_row (constraint_by params a) rec.generic_param_constraint

abbrev pub constraints_by : List RowAt → List AsmRec → List SortedRow
constraints_by params recs = in_order (all_rows (λ rec. rec.generic_param_constraint) (λ a rec k row. constraint_by params a k row) recs)
