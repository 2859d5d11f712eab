-- The tokens of generic parameters and of their constraints, by the rows of a group.
use Rattle.std.proofs.Common.{◌≡◌, ℕ, suc, List, [], refl, ap, ◌∙◌}
use Rattle.std.specs.Prelude.{slice_get}
use Rattle.std.specs.List.{flat_map}
use Rattle.std.specs.Option.{option_map_or}
use Rattle.il_base.specs.declared.table.TheConstants.{GENERIC_PARAM}
use Rattle.il_base.specs.declared.world_model.types.GenericParamRow.{GenericParamRow}
use Rattle.il_base.specs.declared.world_model.types.GenericParamConstraintRow.{GenericParamConstraintRow}
use Rattle.il_base.specs.declared.world_model.record.AsmRec.{AsmRec}
use Rattle.il_base.specs.world_model.Tokens.{token_of}
use Rattle.rules.specs.type_rules.Rows.{each_row}
use Rattle.type_tables.specs.declared.groups.Groups.{Groups}
use Rattle.type_tables.specs.Groups.{is_key, rows_with, AreGroups}
use Rattle.rules.specs.mark_rules.Attributes.{constraint_token, param_tokens, generic_tokens}
use Rattle.mark_parts.specs.mark_tables.Owners.{param_owners, constraint_owners}
use Rattle.attribute_values.specs.attribute_rows.Parents.{constraint_here, param_here}
use Rattle.attribute_values.proofs.lemmas.attribute_rows.Numbered.{each_places}

module _ (rec : AsmRec) (groups : Groups) where
  abbrev constraint_at : ℕ → List ℕ
  constraint_at k = option_map_or (constraint_here k) (slice_get rec.generic_param_constraint k) []

  pub constraints_grouped : AreGroups (constraint_owners rec) groups → (k token : ℕ) → token ≡ token_of GENERIC_PARAM (suc k) → (rows : List ℕ) → rows ≡ rows_with groups token
      → flat_map constraint_at rows ≡ each_row (constraint_token (token_of GENERIC_PARAM (suc k))) rec.generic_param_constraint
  constraints_grouped are k token t rows e =
      ap (flat_map constraint_at) (e ∙ ap (rows_with groups) t ∙ are (token_of GENERIC_PARAM (suc k)))
      ∙ each_places (λ (r : GenericParamConstraintRow). r.owner) (is_key (token_of GENERIC_PARAM (suc k))) constraint_here (constraint_token (token_of GENERIC_PARAM (suc k))) (λ j r. refl)
      rec.generic_param_constraint

  abbrev param_tokens_at : ℕ → List ℕ
  param_tokens_at k = option_map_or (param_here rec k) (slice_get rec.generic_param k) []

  pub params_grouped : AreGroups (param_owners rec) groups → (owner : ℕ) (rows : List ℕ) → rows ≡ rows_with groups owner → flat_map param_tokens_at rows ≡ generic_tokens rec owner
  params_grouped are owner rows e =
      ap (flat_map param_tokens_at) (e ∙ are owner)
      ∙ each_places (λ (r : GenericParamRow). r.owner) (is_key owner) (param_here rec) (param_tokens rec owner) (λ j r. refl) rec.generic_param
