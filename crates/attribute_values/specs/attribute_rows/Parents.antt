-- The tokens that attribute rows have as their parent, by the rows that belong to each item.
use Rattle.std.specs.Prelude.{ℕ, suc, List, [], ◌∷◌, ◌==◌, Bool}
use Rattle.std.specs.List.{list_any}
use Rattle.il_base.specs.declared.table.TheConstants.{GENERIC_PARAM, GENERIC_PARAM_CONSTRAINT}
use Rattle.il_base.specs.declared.world_model.types.GenericParamRow.{GenericParamRow}
use Rattle.il_base.specs.declared.world_model.types.GenericParamConstraintRow.{GenericParamConstraintRow}
use Rattle.il_base.specs.declared.world_model.record.AsmRec.{AsmRec}
use Rattle.il_base.specs.world_model.Tokens.{token_of}
use Rattle.rules.specs.type_rules.Rows.{each_row}
use Rattle.type_tables.specs.member_search.Names.{places}
use Rattle.type_tables.specs.Groups.{is_key}
use Rattle.rules.specs.mark_rules.Attributes.{constraint_token}
use Rattle.mark_parts.specs.mark_tables.Owners.{attribute_parents}

abbrev pub constraint_here : ℕ → GenericParamConstraintRow → List ℕ
constraint_here k row = token_of GENERIC_PARAM_CONSTRAINT (suc k) ∷ []

-- a generic parameter with its constraints
abbrev pub param_at : AsmRec → ℕ → List ℕ
param_at rec k = token_of GENERIC_PARAM (suc k) ∷ each_row (constraint_token (token_of GENERIC_PARAM (suc k))) rec.generic_param_constraint

abbrev pub param_here : AsmRec → ℕ → GenericParamRow → List ℕ
param_here rec k row = param_at rec k

-- ---- rows of CustomAttribute by their parent, from 0, in order

abbrev pub is_one_of : List ℕ → ℕ → Bool
is_one_of tokens key = list_any (λ t. key == t) tokens

abbrev pub rows_of_token : AsmRec → ℕ → List ℕ
rows_of_token rec token = places (is_key token) 0 (attribute_parents rec)

abbrev pub rows_of_tokens : AsmRec → List ℕ → List ℕ
rows_of_tokens rec tokens = places (is_one_of tokens) 0 (attribute_parents rec)
