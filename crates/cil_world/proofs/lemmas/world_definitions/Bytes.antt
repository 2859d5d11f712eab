-- The first row of a field is the first of those that have it.
use Rattle.std.proofs.Common.{◌≡◌, ℕ, List, [], ◌∷◌, ◌++◌, Bool, true, false, cond, Option, Some, refl, sym, ap, ◌∙◌}
use Rattle.std.specs.Prelude.{find, ◌==◌, if◌then◌else◌}
use Rattle.std.specs.List.{flat_map}
use Rattle.std.proofs.lemmas.List.Concat.{flat_map-cons}
use Rattle.il_base.specs.declared.world_model.known.Known.{Known}
use Rattle.il_base.specs.declared.world_model.extras.FieldRvaRow.{FieldRvaRow}
use Rattle.rules.specs.view_rules.Methods.{bytes_by, first_bytes}
use Rattle.cil_world.specs.world_definitions.Fields.{first_by}

by_test : (b : Bool) (x : FieldRvaRow) (later : Option FieldRvaRow) (rest : List (Known (List ℕ))) → first_by later ≡ first_bytes rest
    → first_by (cond b (Some x) later) ≡ first_bytes ((if b then x.bytes ∷ [] else []) ++ rest)
by_test true x later rest e = refl
by_test false x later rest e = e

pub first_found : (token : ℕ) (rows : List FieldRvaRow) → first_by (find (λ (r : FieldRvaRow). r.field == token) rows) ≡ first_bytes (flat_map (bytes_by token) rows)
first_found token [] = refl
first_found token (x ∷ xs) =
    by_test (x.field == token) x (find (λ (r : FieldRvaRow). r.field == token) xs) (flat_map (bytes_by token) xs) (first_found token xs)
    ∙ ap first_bytes (sym (flat_map-cons (bytes_by token) x xs))
