-- The constraints of generic parameters, by the rows that belong to each.
use Rattle.std.specs.Prelude.{ℕ, suc, List, [], ◌∷◌}
use Rattle.il_base.specs.declared.table.TheConstants.{GENERIC_PARAM, GENERIC_PARAM_CONSTRAINT}
use Rattle.il_base.specs.declared.world_model.types.GenericParamRow.{GenericParamRow}
use Rattle.il_base.specs.declared.world_model.types.GenericParamConstraintRow.{GenericParamConstraintRow}
use Rattle.il_base.specs.declared.world_model.record.AsmRec.{AsmRec}
use Rattle.il_base.specs.world_model.Tokens.{token_of}
use Rattle.rules.specs.type_rules.Rows.{each_row}
use Rattle.rules.specs.mark_rules.Naming.{Part, type_token_part}
use Rattle.rules.specs.mark_rules.Types.{constraint_of}

abbrev pub constraint_part : List AsmRec → ℕ → AsmRec → ℕ → GenericParamConstraintRow → List Part
constraint_part recs a rec k row = type_token_part recs a rec (token_of GENERIC_PARAM_CONSTRAINT (suc k)) 0 row.constraint ∷ []

-- the constraints of the generic parameter in a row
abbrev pub param_part : List AsmRec → ℕ → AsmRec → ℕ → GenericParamRow → List Part
param_part recs a rec k row = each_row (constraint_of recs a rec (token_of GENERIC_PARAM (suc k))) rec.generic_param_constraint
