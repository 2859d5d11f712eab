-- What rows refer to that belong to a type or a method, without the test on what they belong to.
use Rattle.std.specs.Prelude.{ℕ, suc, List, [], ◌++◌, if◌then◌else◌}
use Rattle.std.specs.List.{list_any, flat_map}
use Rattle.il_base.specs.declared.table.TheConstants.{GENERIC_PARAM}
use Rattle.il_base.specs.declared.world_model.types.InterfaceImplRow.{InterfaceImplRow}
use Rattle.il_base.specs.declared.world_model.types.GenericParamRow.{GenericParamRow}
use Rattle.il_base.specs.declared.world_model.types.GenericParamConstraintRow.{GenericParamConstraintRow}
use Rattle.il_base.specs.declared.world_model.members.MethodImplRow.{MethodImplRow}
use Rattle.il_base.specs.declared.world_model.record.AsmRec.{AsmRec}
use Rattle.il_base.specs.world_model.Tokens.{token_of}
use Rattle.rules.specs.link_rules.Types.{at_row}
use Rattle.rules.specs.link_rules.Cycles.{listed}
use Rattle.rules.specs.type_rules.Rows.{each_row}
use Rattle.rules.specs.mark_rules.Places.{impl_item}
use Rattle.rules.specs.merge_rules.Numbers.{Kept}
use Rattle.rules.specs.merge_rules.Keys.{method_key}
use Rattle.rules.specs.merge_rules.Order.{Met, met_token, met_callee, met_constraint, met_param, is_kept_method}

-- the type of a constraint
abbrev pub met_bound : List AsmRec → ℕ → AsmRec → GenericParamConstraintRow → List Met
met_bound recs a rec row = met_token recs a rec row.constraint

-- the constraints of the parameter in a row
abbrev pub met_bounds : List AsmRec → ℕ → AsmRec → ℕ → GenericParamRow → List Met
met_bounds recs a rec k row = flat_map (met_constraint recs a rec (token_of GENERIC_PARAM (suc k))) rec.generic_param_constraint

-- the constraints of the parameters of a type or a method, by its token
abbrev pub met_params : List AsmRec → ℕ → AsmRec → ℕ → List Met
met_params recs a rec owner = each_row (met_param recs a rec owner) rec.generic_param

-- the interface of a kept row
abbrev pub met_kept_interface : List AsmRec → Kept → ℕ → AsmRec → ℕ → InterfaceImplRow → List Met
met_kept_interface recs kept a rec k row = if kept (impl_item recs (at_row a k)) then met_token recs a rec row.interface else []

-- the methods of a row of MethodImpl whose body is kept or the core library's
abbrev pub met_kept_impl : List AsmRec → Kept → ℕ → AsmRec → MethodImplRow → List Met
met_kept_impl recs kept a rec row =
    if list_any (is_kept_method recs kept) (listed (method_key recs a rec row.body)) then met_callee recs a rec row.body ++ met_callee recs a rec row.declaration else []
