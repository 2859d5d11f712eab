-- Rows by the rows of a group.
use Rattle.std.proofs.Common.{◌≡◌, ℕ, suc, List, [], Bool, true, false, refl, ap, ◌∙◌}
use Rattle.std.specs.Prelude.{slice_get, ◌==◌, ◌&&◌, if◌then◌else◌}
use Rattle.std.specs.List.{flat_map}
use Rattle.std.specs.Option.{option_map_or}
use Rattle.il_base.specs.declared.outside.TheConstants as outside
use Rattle.il_base.specs.declared.table.TheConstants.{GENERIC_PARAM}
use Rattle.il_base.specs.declared.world_model.types.GenericParamRow.{GenericParamRow}
use Rattle.il_base.specs.declared.world_model.extras.FieldRvaRow.{FieldRvaRow}
use Rattle.il_base.specs.declared.world_model.record.AsmRec.{AsmRec}
use Rattle.il_base.specs.world_model.Tokens.{token_of}
use Rattle.rules.specs.declared.link_rules.row_at.RowAt.{RowAt}
use Rattle.type_tables.specs.declared.groups.Groups.{Groups}
use Rattle.type_tables.specs.Groups.{rows_with, AreGroups}
use Rattle.rules.specs.mark_rules.BadItems.{flaw_if, variant_flaw, variance_flaws}
use Rattle.mark_parts.specs.mark_tables.Owners.{param_owners}
use Rattle.mark_parts.proofs.Grouped.{each_grouped}
use Rattle.bad_items.specs.mark_flaws.Rows.{is_variant, variant_at, rva_fields, data_at, data_of, data_flaws}

and_flaw : (a b : Bool) (at : RowAt) (token what : ℕ) → flaw_if (a && b) at token what ≡ (if a then flaw_if b at token what else [])
and_flaw true b at token what = refl
and_flaw false b at token what = refl

pub variance_grouped : (at : RowAt) (rec : AsmRec) (owner : ℕ) (groups : Groups) → AreGroups (param_owners rec) groups → (ks : List ℕ) → ks ≡ rows_with groups owner
    → flat_map (λ k. option_map_or (variant_at at k) (slice_get rec.generic_param k) []) ks ≡ variance_flaws at rec owner
variance_grouped at rec owner groups are ks e =
    ap (flat_map (λ k. option_map_or (variant_at at k) (slice_get rec.generic_param k) [])) e
    ∙ each_grouped (λ (r : GenericParamRow). r.owner) owner (variant_at at) (variant_flaw at owner) (λ k x. and_flaw (x.owner == owner) (is_variant x) at (token_of GENERIC_PARAM (suc k)) outside.VARIANCE) rec.generic_param groups are

pub data_grouped : (at : RowAt) (rec : AsmRec) (token : ℕ) (groups : Groups) → AreGroups (rva_fields rec) groups → (ks : List ℕ) → ks ≡ rows_with groups token
    → flat_map (λ k. option_map_or (data_at at k) (slice_get rec.field_rva k) []) ks ≡ data_flaws at rec token
data_grouped at rec token groups are ks e =
    ap (flat_map (λ k. option_map_or (data_at at k) (slice_get rec.field_rva k) [])) e
    ∙ each_grouped (λ (r : FieldRvaRow). r.field) token (data_at at) (data_of at token) (λ k x. refl) rec.field_rva groups are
