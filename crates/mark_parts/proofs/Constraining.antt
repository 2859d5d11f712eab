-- The constraints of generic parameters, by the rows of a group.
use Rattle.std.proofs.Common.{◌≡◌, ℕ, suc, List, [], refl, ap, ◌∙◌}
use Rattle.std.specs.Prelude.{slice_get}
use Rattle.std.specs.List.{flat_map}
use Rattle.std.specs.Option.{option_map_or}
use Rattle.il_base.specs.declared.table.TheConstants.{GENERIC_PARAM}
use Rattle.il_base.specs.declared.world_model.types.GenericParamRow.{GenericParamRow}
use Rattle.il_base.specs.declared.world_model.types.GenericParamConstraintRow.{GenericParamConstraintRow}
use Rattle.il_base.specs.declared.world_model.record.AsmRec.{AsmRec}
use Rattle.il_base.specs.world_model.Tokens.{token_of}
use Rattle.rules.specs.type_rules.Rows.{each_row}
use Rattle.type_tables.specs.declared.groups.Groups.{Groups}
use Rattle.type_tables.specs.Groups.{rows_with, AreGroups}
use Rattle.rules.specs.mark_rules.Naming.{Part}
use Rattle.rules.specs.mark_rules.Types.{constraint_of, constraints_of_param, constraints_of}
use Rattle.mark_parts.specs.mark_tables.Owners.{param_owners, constraint_owners}
use Rattle.mark_parts.specs.Constraints.{constraint_part, param_part}
use Rattle.mark_parts.proofs.Grouped.{each_grouped}

module _ (recs : List AsmRec) (a : ℕ) (rec : AsmRec) (groups : Groups) where
  abbrev constraint_at : ℕ → List Part
  constraint_at k = option_map_or (constraint_part recs a rec k) (slice_get rec.generic_param_constraint k) []

  pub constraints_grouped : AreGroups (constraint_owners rec) groups → (k token : ℕ) → token ≡ token_of GENERIC_PARAM (suc k) → (rows : List ℕ) → rows ≡ rows_with groups token
      → flat_map constraint_at rows ≡ each_row (constraint_of recs a rec (token_of GENERIC_PARAM (suc k))) rec.generic_param_constraint
  constraints_grouped are k token t rows e =
      ap (flat_map constraint_at) (e ∙ ap (rows_with groups) t)
      ∙ each_grouped (λ (r : GenericParamConstraintRow). r.owner) (token_of GENERIC_PARAM (suc k)) (constraint_part recs a rec) (constraint_of recs a rec (token_of GENERIC_PARAM (suc k))) (λ j r. refl)
      rec.generic_param_constraint groups are

  abbrev param_at : ℕ → List Part
  param_at k = option_map_or (param_part recs a rec k) (slice_get rec.generic_param k) []

  pub params_grouped : AreGroups (param_owners rec) groups → (owner : ℕ) (rows : List ℕ) → rows ≡ rows_with groups owner → flat_map param_at rows ≡ constraints_of recs a rec owner
  unfolding constraints_of
  params_grouped are owner rows e =
      ap (flat_map param_at) e
      ∙ each_grouped (λ (r : GenericParamRow). r.owner) owner (param_part recs a rec) (constraints_of_param recs a rec owner) (λ j r. refl) rec.generic_param groups are
