-- A row of the core library is the same row in both worlds.
use Rattle.std.proofs.Common.{◌≡◌, ◌<◌, ℕ, zero, suc, ◌+◌, ◌-◌, List, [], ◌∷◌, ◌++◌, length, map, Some, inl, inr, sym, ap, ◌∙◌, arith}
use Rattle.std.specs.Prelude.{slice_get}
use Rattle.il_base.specs.declared.world_model.types.TypeDefRow.{TypeDefRow}
use Rattle.il_base.specs.declared.world_model.members.FieldRow.{FieldRow}
use Rattle.il_base.specs.declared.world_model.members.MethodDefRow.{MethodDefRow}
use Rattle.il_base.specs.core_table.Record.{core_record}
use Rattle.rules.specs.declared.link_rules.core_type_name.CoreTypeName.{CoreTypeName}
use Rattle.rules.specs.link_rules.CoreNames.{added_row}
use Rattle.rules.specs.merged_world_rules.Merge.{Merge, names_before, names_after}
use Rattle.rules.specs.merged_world_rules.NewNumbers.{type_core, method_core, field_core}
use Rattle.merge_laws.proofs.lemmas.merged_places.Rows.{get_front, get_behind}
use Rattle.merge_laws.proofs.lemmas.merged_places.Worlds.{core_of, left_core, before_types, left_types, before_methods, left_methods, before_fields, left_fields}
use Rattle.merge_laws.proofs.lemmas.merged_places.CoreRows.{same_is, NamedRow, row_either}

mapped_get : {A B : Type 0} (f : A → B) (xs : List A) (k : ℕ) (x : A) → slice_get xs k ≡ Some x → slice_get (map f xs) k ≡ Some (f x)
mapped_get f [] k x e = absurd (cc)
mapped_get f (y ∷ xs) zero x e = let same : y ≡ x = cc in ap (λ (z : _). Some (f z)) same
mapped_get f (y ∷ xs) (suc k) x e = mapped_get f xs k x e

module _ (m : Merge) where
  abbrev own : ℕ
  own = length core_record.type_def

  abbrev added : List CoreTypeName → List TypeDefRow
  added names = map (added_row core_record) names

  own_row : (names : List CoreTypeName) (r : ℕ) → r < length core_record.type_def → slice_get (core_record.type_def ++ added names) r ≡ slice_get core_record.type_def r
  own_row names r lt = get_front core_record.type_def (added names) r lt

  named_row_is : (names : List CoreTypeName) (k : ℕ) (x : CoreTypeName) → slice_get names k ≡ Some x → slice_get (core_record.type_def ++ added names) (length core_record.type_def + k) ≡ Some (added_row core_record x)
  named_row_is names k x e = get_behind core_record.type_def (added names) k ∙ mapped_get (added_row core_record) names k x e

  own_same : (r s : ℕ) → r < length core_record.type_def → r ≡ s → slice_get (left_core m).type_def s ≡ slice_get (core_of m).type_def r
  own_same r s lt same =
      ap (λ (ts : List TypeDefRow). slice_get ts s) (left_types m) ∙ ap (slice_get (core_record.type_def ++ added (names_after m))) (sym same) ∙ own_row (names_after m) r lt
      ∙ sym (ap (λ (ts : List TypeDefRow). slice_get ts r) (before_types m) ∙ own_row (names_before m) r lt)

  named_same : (r s : ℕ) → NamedRow (length core_record.type_def) (names_before m) (names_after m) r s → slice_get (left_core m).type_def s ≡ slice_get (core_of m).type_def r
  named_same r s h =
      let past = h.past in
      let row : r ≡ length core_record.type_def + (r - length core_record.type_def) = omega (arith, past) in
      ap (λ (ts : List TypeDefRow). slice_get ts s) (left_types m) ∙ ap (slice_get (core_record.type_def ++ added (names_after m))) h.is ∙ named_row_is (names_after m) h.place h.name h.found.there
      ∙ sym (ap (λ (ts : List TypeDefRow). slice_get ts r) (before_types m) ∙ ap (slice_get (core_record.type_def ++ added (names_before m))) row ∙ named_row_is (names_before m) (r - length core_record.type_def) h.name h.here)

  pub type_same : (r s : ℕ) → (type_core m).to r ≡ Some s → slice_get (left_core m).type_def s ≡ slice_get (core_of m).type_def r
  type_same r s e = elim (row_either (length core_record.type_def) (names_before m) (names_after m) r s e) [ inl h ↦ own_same r s h.0 h.1 | inr h ↦ named_same r s h ]

  pub method_same : (r s : ℕ) → method_core.to r ≡ Some s → slice_get (left_core m).method_def s ≡ slice_get (core_of m).method_def r
  method_same r s e =
      ap (λ (ms : List MethodDefRow). slice_get ms s) (left_methods m ∙ sym (before_methods m)) ∙ ap (slice_get (core_of m).method_def) (sym (same_is (length core_record.method_def) r s e).1)

  pub field_same : (r s : ℕ) → field_core.to r ≡ Some s → slice_get (left_core m).field s ≡ slice_get (core_of m).field r
  field_same r s e = ap (λ (fs : List FieldRow). slice_get fs s) (left_fields m ∙ sym (before_fields m)) ∙ ap (slice_get (core_of m).field) (sym (same_is (length core_record.field) r s e).1)
