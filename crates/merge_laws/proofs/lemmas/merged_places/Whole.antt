-- The laws, kind by kind.
use Rattle.std.proofs.Common.{◌≡◌, ℕ, Bool, true, List, length, Option, Some, None, refl, sym, ap, subst, ◌∙◌}
use Rattle.std.specs.Prelude.{IsTrue, slice_get}
use Rattle.std.specs.Option.{is_some, option_map, option_and_then}
use Rattle.il_base.specs.declared.world_model.types.TypeDefRow.{TypeDefRow}
use Rattle.il_base.specs.declared.world_model.members.FieldRow.{FieldRow}
use Rattle.il_base.specs.declared.world_model.members.MethodDefRow.{MethodDefRow}
use Rattle.il_base.specs.declared.world_model.record.AsmRec.{AsmRec}
use Rattle.il_base.specs.world_model.Worlds.{types_in}
use Rattle.il_base.specs.core_table.Record.{core_record}
use Rattle.rules.specs.declared.link_rules.row_at.RowAt.{RowAt}
use Rattle.rules.specs.link_rules.Cycles.{same_row}
use Rattle.rules.specs.link_rules.Members.{home_from, type_home, methods_in, fields_in}
use Rattle.rules.specs.type_rules.Rows.{type_row_at, field_row_at}
use Rattle.rules.specs.type_rules.Slots.{method_row_at}
use Rattle.rules.specs.merge_rules.Numbers.{kept_types, kept_methods, kept_fields}
use Rattle.rules.specs.change_rules.Change.{Keep, Undone}
use Rattle.rules.specs.world_change_rules.Places.{PlacesMove, type_numbered, type_number, method_number, keeps_type_row, keeps_method_row, keeps_field_row}
use Rattle.rules.specs.view_rules.Layouts.{field_number}
use Rattle.rules.specs.merged_world_rules.Merge.{Merge, IsMerge, before, after}
use Rattle.rules.specs.merged_world_rules.Numbering.{number_at}
use Rattle.rules.specs.merged_world_rules.NewNumbers.{type_core, method_core, field_core, rho_of, back_of, change_of, places_of}
use Rattle.rules.specs.merged_world_rules.Kept.{HasFlags}
use Rattle.merge_laws.specs.merged_places.Laws.{RowsApart}
use Rattle.merge_laws.proofs.lemmas.merged_places.Rows.{IsThere, place_within, place_has, home_there, home_number}
use Rattle.merge_laws.proofs.lemmas.merged_places.Numbers.{led_back}
use Rattle.merge_laws.proofs.lemmas.merged_places.CoreRows.{same_fits, type_fits}
use Rattle.merge_laws.proofs.lemmas.merged_places.Moving.{homes_move, numbers_move, rows_apart, Stays, place_of}
use Rattle.merge_laws.proofs.lemmas.merged_places.Situations.{place, place_there}
use Rattle.merge_laws.proofs.lemmas.merged_places.Tables.{number_type, number_method, number_field, type_kind, method_kind, field_kind, method_goes, field_goes}

pub undone_of : (m : Merge) → Undone (back_of m) (rho_of m)
undone_of m = record {
  typ = led_back types_in (type_core m) (type_fits m) (before m) (kept_types (before m) m.kept);
  method = led_back methods_in method_core (same_fits (length core_record.method_def)) (before m) (kept_methods (before m) m.kept);
  field = led_back fields_in field_core (same_fits (length core_record.field)) (before m) (kept_fields (before m) m.kept);
}

-- ---- rows that are there

module _ {R : Type 0} (rows : AsmRec → List R) (recs : List AsmRec) (at : RowAt) where
  row_by : (row : R) (o : Option AsmRec) → slice_get recs at.asm ≡ o → option_and_then (λ (rec : AsmRec). slice_get (rows rec) at.row) o ≡ Some row → IsThere (λ rec. length (rows rec)) recs at
  row_by row None e h = absurd (cc)
  row_by row (Some rec) e h = record { rec = rec; here = e; below = place_within (rows rec) at.row row h }

  pub row_there : (row : R) → option_and_then (λ (rec : AsmRec). slice_get (rows rec) at.row) (slice_get recs at.asm) ≡ Some row → IsThere (λ rec. length (rows rec)) recs at
  row_there row h = row_by row (slice_get recs at.asm) refl h

  pub there_row : IsThere (λ rec. length (rows rec)) recs at → (row : R) × (option_and_then (λ (rec : AsmRec). slice_get (rows rec) at.row) (slice_get recs at.asm) ≡ Some row)
  there_row h =
      let row = place_has (rows h.rec) at.row h.below in
      (row.0, ap (option_and_then (λ (rec : AsmRec). slice_get (rows rec) at.row)) h.here ∙ row.1)

-- what is so of each row that is found is so of the search
mapped_same : (f g : RowAt → RowAt) (o : Option RowAt) → ((at : RowAt) → o ≡ Some at → f at ≡ g at) → option_map f o ≡ option_map g o
mapped_same f g None h = refl
mapped_same f g (Some at) h = ap Some (h at refl)

-- ---- flags

-- a row that is there stays where its flag is set
some_by : (o : Option ℕ) → is_some o ≡ true → (s : ℕ) × (o ≡ Some s)
some_by None h = absurd (cc)
some_by (Some s) h = (s, refl)

module _ (m : Merge) (is : IsMerge m) (k : Keep) (kept : RowAt → Bool) (flags : HasFlags m k kept) where
  pub type_stays : (at : RowAt) → IsTrue (keeps_type_row k (before m) at) → IsThere types_in (before m) at → Stays m types_in number_type (type_kind m is) at
  type_stays at keeps h =
      let row = there_row (λ rec. rec.type_def) (before m) at h in
      ((λ lt. sym (flags.types at row.0 lt row.1) ∙ keeps), (λ last. some_by ((type_core m).to at.row) (sym (flags.core_types at row.0 last row.1) ∙ keeps)))

  pub method_stays : (at : RowAt) → IsTrue (keeps_method_row k (before m) at) → IsThere methods_in (before m) at → Stays m methods_in number_method (method_kind m is) at
  method_stays at keeps h = let row = there_row (λ rec. rec.method_def) (before m) at h in ((λ lt. sym (flags.methods at row.0 row.1) ∙ keeps), (λ last. (at.row, method_goes m at h last)))

  pub field_stays : (at : RowAt) → IsTrue (keeps_field_row k (before m) at) → IsThere fields_in (before m) at → Stays m fields_in number_field (field_kind m is) at
  field_stays at keeps h = let row = there_row (λ rec. rec.field) (before m) at h in ((λ lt. sym (flags.fields at row.0 row.1) ∙ keeps), (λ last. (at.row, field_goes m at h last)))

-- ---- numbers and places go together

module _ (m : Merge) (undone : Undone (back_of m) (rho_of m)) (k : Keep) (kept : RowAt → Bool) (is : IsMerge m) (flags : HasFlags m k kept) where
  type_home_moved : (t : ℕ) → IsTrue (k.typ t) → type_home (after m) (type_numbered ((rho_of m).typ t)) ≡ option_map (places_of m).typ (type_home (before m) (type_numbered t))
  unfolding kept_types
  type_home_moved t h =
      homes_move m types_in number_type (type_kind m is) t
      (λ at e. type_stays m is k kept flags at (subst (λ (n : ℕ). IsTrue (k.typ n)) (sym (home_number types_in (before m) t at e)) h) (home_there types_in (before m) t at e))
      ∙ mapped_same (place_of m types_in number_type (type_kind m is)) (place m types_in number_type (type_kind m is)) (home_from types_in 0 (before m) t)
      (λ at e. sym (place_there m types_in number_type (type_kind m is) at (home_there types_in (before m) t at e)))

  method_home_moved : (n : ℕ) → IsTrue (k.method n) → home_from methods_in 0 (after m) ((rho_of m).method n) ≡ option_map (places_of m).method (home_from methods_in 0 (before m) n)
  unfolding kept_methods
  method_home_moved n h =
      homes_move m methods_in number_method (method_kind m is) n
      (λ at e. method_stays m is k kept flags at (subst (λ (i : ℕ). IsTrue (k.method i)) (sym (home_number methods_in (before m) n at e)) h) (home_there methods_in (before m) n at e))
      ∙ mapped_same (place_of m methods_in number_method (method_kind m is)) (place m methods_in number_method (method_kind m is)) (home_from methods_in 0 (before m) n)
      (λ at e. sym (place_there m methods_in number_method (method_kind m is) at (home_there methods_in (before m) n at e)))

  field_home_moved : (f : ℕ) → IsTrue (k.field f) → home_from fields_in 0 (after m) ((rho_of m).field f) ≡ option_map (places_of m).field (home_from fields_in 0 (before m) f)
  unfolding kept_fields
  field_home_moved f h =
      homes_move m fields_in number_field (field_kind m is) f
      (λ at e. field_stays m is k kept flags at (subst (λ (i : ℕ). IsTrue (k.field i)) (sym (home_number fields_in (before m) f at e)) h) (home_there fields_in (before m) f at e))
      ∙ mapped_same (place_of m fields_in number_field (field_kind m is)) (place m fields_in number_field (field_kind m is)) (home_from fields_in 0 (before m) f)
      (λ at e. sym (place_there m fields_in number_field (field_kind m is) at (home_there fields_in (before m) f at e)))

  type_numbers : (at : RowAt) (t : TypeDefRow) → type_row_at (before m) at ≡ Some t → type_number (after m) ((places_of m).typ at) ≡ (rho_of m).typ (type_number (before m) at)
  unfolding kept_types
  type_numbers at t e =
      ap (number_at types_in (after m)) (place_there m types_in number_type (type_kind m is) at (row_there (λ rec. rec.type_def) (before m) at t e))
      ∙ numbers_move m types_in number_type (type_kind m is) at

  method_numbers : (at : RowAt) (r : MethodDefRow) → method_row_at (before m) at ≡ Some r → method_number (after m) ((places_of m).method at) ≡ (rho_of m).method (method_number (before m) at)
  unfolding kept_methods
  method_numbers at r e =
      ap (number_at methods_in (after m)) (place_there m methods_in number_method (method_kind m is) at (row_there (λ rec. rec.method_def) (before m) at r e))
      ∙ numbers_move m methods_in number_method (method_kind m is) at

  field_numbers : (at : RowAt) (f : FieldRow) → field_row_at (before m) at ≡ Some f → field_number (after m) ((places_of m).field at) ≡ (rho_of m).field (field_number (before m) at)
  unfolding kept_fields
  field_numbers at f e =
      ap (number_at fields_in (after m)) (place_there m fields_in number_field (field_kind m is) at (row_there (λ rec. rec.field) (before m) at f e))
      ∙ numbers_move m fields_in number_field (field_kind m is) at

  pub places_move : PlacesMove (change_of m undone k) (places_of m) (after m) (before m)
  places_move = record {
    type_homes = type_home_moved;
    method_homes = method_home_moved;
    field_homes = field_home_moved;
    types = λ at t e keeps. type_numbers at t e;
    methods = λ at r e keeps. method_numbers at r e;
    fields = λ at f e keeps. field_numbers at f e;
  }

-- ---- two rows stay two

module _ (m : Merge) (is : IsMerge m) where
  types_apart : (a b : RowAt) (x y : TypeDefRow) → type_row_at (before m) a ≡ Some x → type_row_at (before m) b ≡ Some y → same_row ((places_of m).typ a) ((places_of m).typ b) ≡ same_row a b
  unfolding kept_types
  types_apart a b x y e f =
      let p = row_there (λ rec. rec.type_def) (before m) a x e in
      let q = row_there (λ rec. rec.type_def) (before m) b y f in
      (λ i. same_row (place_there m types_in number_type (type_kind m is) a p i) (place_there m types_in number_type (type_kind m is) b q i))
      ∙ rows_apart m types_in number_type (type_kind m is) a b p q

  methods_apart : (a b : RowAt) (x y : MethodDefRow) → method_row_at (before m) a ≡ Some x → method_row_at (before m) b ≡ Some y → same_row ((places_of m).method a) ((places_of m).method b) ≡ same_row a b
  unfolding kept_methods
  methods_apart a b x y e f =
      let p = row_there (λ rec. rec.method_def) (before m) a x e in
      let q = row_there (λ rec. rec.method_def) (before m) b y f in
      (λ i. same_row (place_there m methods_in number_method (method_kind m is) a p i) (place_there m methods_in number_method (method_kind m is) b q i))
      ∙ rows_apart m methods_in number_method (method_kind m is) a b p q

  pub stay_apart : RowsApart m
  stay_apart = record { types = types_apart; methods = methods_apart }
