-- Rows of types that were found.
use Rattle.std.proofs.Common.{◌≡◌, ℕ, List, [], ◌∷◌, map, Option, Some, None, sym, ap, ◌∙◌}
use Rattle.std.specs.Prelude.{slice_get}
use Rattle.std.specs.List.{flat_map}
use Rattle.std.proofs.lemmas.List.{append-nil}
use Rattle.il_base.specs.declared.ids.TypeId.{TypeId}
use Rattle.il_base.specs.declared.world_model.record.AsmRec.{AsmRec}
use Rattle.rules.specs.declared.link_rules.row_at.RowAt.{RowAt}
use Rattle.rules.specs.link_rules.Types.{at_row}
use Rattle.rules.specs.link_rules.Members.{type_home}
use Rattle.rules.specs.link_rules.Cycles.{listed}
use Rattle.rules.specs.type_rules.Rows.{owner_of_field}
use Rattle.rules.specs.mark_rules.Dependencies.{type_rows}
use Rattle.mark_dependencies.specs.Lookups.{field_owner}

pub one_row : (recs : List AsmRec) (id : TypeId) → listed (type_home recs id) ≡ type_rows recs (id ∷ [])
one_row recs id = sym (append-nil (listed (type_home recs id)))

pub no_owner : (recs : List AsmRec) (at : RowAt) → slice_get recs at.asm ≡ None → [] ≡ field_owner recs at
no_owner recs at e = sym (ap (λ (o : Option AsmRec). flat_map (λ (rec : AsmRec). map (at_row at.asm) (listed (owner_of_field rec at.row))) (listed o)) e)

pub owner_listed : (recs : List AsmRec) (at : RowAt) (rec : AsmRec) (o : Option ℕ) → slice_get recs at.asm ≡ Some rec → o ≡ owner_of_field rec at.row → map (at_row at.asm) (listed o) ≡ field_owner recs at
owner_listed recs at rec o here e =
    ap (λ (o : Option ℕ). map (at_row at.asm) (listed o)) e ∙ sym (append-nil (map (at_row at.asm) (listed (owner_of_field rec at.row))))
    ∙ sym (ap (λ (o : Option AsmRec). flat_map (λ (rec : AsmRec). map (at_row at.asm) (listed (owner_of_field rec at.row))) (listed o)) here)
