-- The name of a generic parameter, by the rows of its owner.
use Rattle.std.proofs.Common.{◌≡◌, ℕ, List, [], ◌∷◌, Bool, true, false, refl, ap, ◌∙◌}
use Rattle.std.specs.Prelude.{◌==◌, ◌&&◌, if◌then◌else◌}
use Rattle.std.specs.List.{flat_map}
use Rattle.il_base.specs.declared.world_model.types.GenericParamRow.{GenericParamRow}
use Rattle.il_base.specs.declared.world_model.record.AsmRec.{AsmRec}
use Rattle.type_tables.specs.declared.groups.Groups.{Groups}
use Rattle.type_tables.specs.Groups.{rows_with, AreGroups}
use Rattle.rules.specs.mark_rules.Roots.{first_text, parameter_row, parameter_name}
use Rattle.mark_parts.specs.mark_tables.Owners.{param_owners}
use Rattle.mark_parts.proofs.Grouped.{each_grouped}
use Rattle.descriptor_texts.specs.sig_texts.Params.{named_by, named_at}

both_if : {A : Type 0} (a b : Bool) (xs : List A) → (if a && b then xs else []) ≡ (if a then (if b then xs else []) else [])
both_if true b xs = refl
both_if false b xs = refl

pub named_grouped : (rec : AsmRec) (owner n : ℕ) (groups : Groups) → AreGroups (param_owners rec) groups → (ks : List ℕ) → ks ≡ rows_with groups owner
    → first_text (flat_map (named_at rec n) ks) ≡ parameter_name rec owner n
named_grouped rec owner n groups are ks e =
    ap (λ (ks : List ℕ). first_text (flat_map (named_at rec n) ks)) e
    ∙ ap first_text
    (each_grouped (λ (r : GenericParamRow). r.owner) owner (λ k (row : GenericParamRow). named_by n row) (parameter_row owner n)
    (λ k row. both_if (row.owner == owner) (row.number == n) (row.name ∷ [])) rec.generic_param groups are)
