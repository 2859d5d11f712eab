-- The first annotation of a row, by the rows of CustomAttribute that belong to it.
use Rattle.std.proofs.Common.{◌≡◌, ℕ, suc, List, [], ◌∷◌, ◌++◌, Bool, true, false, refl, ap, ◌∙◌}
use Rattle.std.specs.Prelude.{◌==◌, ◌&&◌, if◌then◌else◌}
use Rattle.std.specs.List.{flat_map, filter}
use Rattle.il_base.specs.declared.world_model.extras.CustomAttributeRow.{CustomAttributeRow}
use Rattle.il_base.specs.declared.world_model.record.AsmRec.{AsmRec}
use Rattle.rules.specs.link_rules.Cycles.{listed}
use Rattle.rules.specs.type_rules.Rows.{each_from}
use Rattle.type_tables.specs.Groups.{is_key}
use Rattle.rules.specs.mark_rules.Attributes.{head_of}
use Rattle.rules.specs.mark_rules.Annotations.{is_called, dynamically_accessed, is_annotation, or_zero, kinds_at}
use Rattle.attribute_values.specs.attribute_rows.Parents.{rows_of_token}
use Rattle.attribute_values.proofs.lemmas.attribute_rows.Numbered.{each_places}
use Rattle.attribute_values.specs.trimming_attributes.Kinds.{kinds_in, annotation_by, annotation_at}

one_if : {A : Type 0} (b c : Bool) (x : A) (xs rest : List A) → rest ≡ xs → (if b && c then x ∷ [] else []) ++ rest ≡ (if b && c then x ∷ xs else xs)
one_if true true x xs rest h = ap (λ (ys : List _). x ∷ ys) h
one_if true false x xs rest h = h
one_if false c x xs rest h = h

two_tests : {A : Type 0} (b c : Bool) (x : A) → (if b && c then x ∷ [] else []) ≡ (if b then (if c then x ∷ [] else []) else [])
two_tests true c x = refl
two_tests false c x = refl

module _ {A : Type 0} (p q : A → Bool) where
  each_kept : (k : ℕ) (xs : List A) → each_from (λ i x. if p x && q x then x ∷ [] else []) k xs ≡ filter (λ x. p x && q x) xs
  each_kept k [] = refl
  each_kept k (x ∷ xs) = one_if (p x) (q x) x (filter (λ y. p y && q y) xs) (each_from (λ i y. if p y && q y then y ∷ [] else []) (suc k) xs) (each_kept (suc k) xs)

module _ (rec : AsmRec) (token : ℕ) where
  annotations : flat_map (annotation_at rec) (rows_of_token rec token) ≡ filter (is_annotation rec token) rec.custom_attribute
  annotations =
      each_places (λ (r : CustomAttributeRow). r.parent) (is_key token) (λ k. annotation_by rec) (λ k row. if row.parent == token && is_called rec dynamically_accessed row then row ∷ [] else [])
      (λ k row. two_tests (row.parent == token) (is_called rec dynamically_accessed row) row) rec.custom_attribute
      ∙ each_kept (λ (row : CustomAttributeRow). row.parent == token) (is_called rec dynamically_accessed) 0 rec.custom_attribute

  pub first_annotation : (recs : List AsmRec) (a : ℕ) → or_zero (flat_map (kinds_in recs a rec) (listed (head_of (flat_map (annotation_at rec) (rows_of_token rec token))))) ≡ kinds_at recs a rec token
  unfolding kinds_at
  first_annotation recs a = ap (λ (rows : List CustomAttributeRow). or_zero (flat_map (kinds_in recs a rec) (listed (head_of rows)))) annotations
