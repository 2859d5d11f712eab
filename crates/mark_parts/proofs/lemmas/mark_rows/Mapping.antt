-- The properties and events of a type, by the rows of a group.
use Rattle.std.proofs.Common.{◌≡◌, ℕ, suc, List, [], ◌∷◌, ◌++◌, map, Bool, true, false, Option, Some, None, refl, sym, ap, ◌∙◌}
use Rattle.std.specs.Prelude.{◌==◌, slice_get, if◌then◌else◌}
use Rattle.std.specs.List.{flat_map}
use Rattle.std.proofs.lemmas.List.{append-nil, map-append}
use Rattle.il_base.specs.declared.table.TheConstants.{TYPE_DEF}
use Rattle.il_base.specs.declared.world_model.members.PropertyMapRow.{PropertyMapRow}
use Rattle.il_base.specs.declared.world_model.members.EventMapRow.{EventMapRow}
use Rattle.il_base.specs.declared.world_model.record.AsmRec.{AsmRec}
use Rattle.il_base.specs.world_model.Tokens.{token_of}
use Rattle.rules.specs.declared.link_rules.row_at.RowAt.{RowAt}
use Rattle.rules.specs.link_rules.Types.{at_row}
use Rattle.rules.specs.link_rules.Cycles.{listed}
use Rattle.rules.specs.type_rules.Rows.{run_places}
use Rattle.type_tables.specs.declared.groups.Groups.{Groups}
use Rattle.type_tables.specs.Groups.{rows_with, AreGroups}
use Rattle.type_tables.specs.Tables.{property_parents, event_parents}
use Rattle.type_tables.proofs.Grouped.{flat_grouped}
use Rattle.rules.specs.mark_rules.Members.{property_places_by, properties_of_type, event_places_by, events_of_type}
use Rattle.mark_parts.specs.mark_rows.Runs.{properties_in, properties_at, events_in, events_at}

pub none_more : {A : Type 0} (out : List A) → out ++ [] ≡ out
none_more out = append-nil out

map_flat : {A B C : Type 0} (f : B → C) (g : A → List B) (xs : List A) → map f (flat_map g xs) ≡ flat_map (λ x. map f (g x)) xs
map_flat f g [] = refl
map_flat f g (x ∷ xs) = map-append f (g x) (flat_map g xs) ∙ ap (λ (rest : _). map f (g x) ++ rest) (map_flat f g xs)

map_if : {B C : Type 0} (f : B → C) (b : Bool) (xs : List B) → map f (if b then xs else []) ≡ (if b then map f xs else [])
map_if f true xs = refl
map_if f false xs = refl

one_listed : {A B : Type 0} (f : A → List B) (o : Option A) (x : A) → o ≡ Some x → flat_map f (listed o) ≡ f x
one_listed f o x e = rw e (append-nil (f x))

none_listed : {A B : Type 0} (f : A → List B) (o : Option A) → o ≡ None → flat_map f (listed o) ≡ []
none_listed f o e = rw e refl

module _ (recs : List AsmRec) (at : RowAt) where
  pub no_properties : slice_get recs at.asm ≡ None → [] ≡ properties_of_type recs at
  unfolding properties_of_type
  no_properties e = sym (none_listed (λ (rec : AsmRec). map (at_row at.asm) (flat_map (property_places_by rec (token_of TYPE_DEF (suc at.row))) rec.property_map)) (slice_get recs at.asm) e)

  pub no_events : slice_get recs at.asm ≡ None → [] ≡ events_of_type recs at
  unfolding events_of_type
  no_events e = sym (none_listed (λ (rec : AsmRec). map (at_row at.asm) (flat_map (event_places_by rec (token_of TYPE_DEF (suc at.row))) rec.event_map)) (slice_get recs at.asm) e)

  module _ (rec : AsmRec) (here : slice_get recs at.asm ≡ Some rec) (groups : Groups) where
    pub properties_grouped : AreGroups (property_parents rec) groups → (token : ℕ) → token ≡ token_of TYPE_DEF (suc at.row) → (maps : List ℕ) → maps ≡ rows_with groups token → (rows : List RowAt)
        → rows ≡ flat_map (properties_at rec at.asm) maps → rows ≡ properties_of_type recs at
    unfolding properties_of_type
    properties_grouped are token t maps m rows r =
        let wanted : ℕ = token_of TYPE_DEF (suc at.row) in
        let f : PropertyMapRow → List RowAt = λ row. map (at_row at.asm) (property_places_by rec wanted row) in
        r ∙ ap (flat_map (properties_at rec at.asm)) (m ∙ ap (rows_with groups) t)
        ∙ flat_grouped (λ (r : PropertyMapRow). r.parent) wanted rec.property_map groups are (properties_in rec at.asm) f
        (λ row. map_if (at_row at.asm) (row.parent == wanted) (run_places row.property_list_first row.property_list_end rec.property))
        ∙ sym (map_flat (at_row at.asm) (property_places_by rec wanted) rec.property_map)
        ∙ sym (one_listed (λ (rec : AsmRec). map (at_row at.asm) (flat_map (property_places_by rec wanted) rec.property_map)) (slice_get recs at.asm) rec here)

    pub events_grouped : AreGroups (event_parents rec) groups → (token : ℕ) → token ≡ token_of TYPE_DEF (suc at.row) → (maps : List ℕ) → maps ≡ rows_with groups token → (rows : List RowAt)
        → rows ≡ flat_map (events_at rec at.asm) maps → rows ≡ events_of_type recs at
    unfolding events_of_type
    events_grouped are token t maps m rows r =
        let wanted : ℕ = token_of TYPE_DEF (suc at.row) in
        let f : EventMapRow → List RowAt = λ row. map (at_row at.asm) (event_places_by rec wanted row) in
        r ∙ ap (flat_map (events_at rec at.asm)) (m ∙ ap (rows_with groups) t)
        ∙ flat_grouped (λ (r : EventMapRow). r.parent) wanted rec.event_map groups are (events_in rec at.asm) f
        (λ row. map_if (at_row at.asm) (row.parent == wanted) (run_places row.event_list_first row.event_list_end rec.event))
        ∙ sym (map_flat (at_row at.asm) (event_places_by rec wanted) rec.event_map)
        ∙ sym (one_listed (λ (rec : AsmRec). map (at_row at.asm) (flat_map (event_places_by rec wanted) rec.event_map)) (slice_get recs at.asm) rec here)
