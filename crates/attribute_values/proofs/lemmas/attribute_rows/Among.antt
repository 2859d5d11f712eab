-- What the rows of CustomAttribute that belong to an item give, one after the other, is what the rows with such a parent give.
use Rattle.std.proofs.Common.{◌≡◌, ℕ, suc, List, [], ◌∷◌, ◌++◌, Bool, true, false, refl, sym, ap, ◌∙◌}
use Rattle.std.specs.Prelude.{slice_get, if◌then◌else◌}
use Rattle.std.specs.List.{flat_map, filter}
use Rattle.std.specs.Option.{option_map_or}
use Rattle.std.proofs.lemmas.List.Concat.{flat_map-cons}
use Rattle.il_base.specs.declared.world_model.extras.CustomAttributeRow.{CustomAttributeRow}
use Rattle.il_base.specs.declared.world_model.record.AsmRec.{AsmRec}
use Rattle.rules.specs.type_rules.Rows.{each_from, each_row}
use Rattle.rules.specs.mark_rules.Attributes.{has_parent}
use Rattle.attribute_values.specs.attribute_rows.Parents.{rows_of_tokens, is_one_of}
use Rattle.attribute_values.proofs.lemmas.attribute_rows.Numbered.{each_places}

kept : {A B : Type 0} (test : A → Bool) (g : A → List B) (b : Bool) (x : A) (xs : List A) (rest : List B) → rest ≡ flat_map g (filter test xs)
    → (if b then g x else []) ++ rest ≡ flat_map g (if b then x ∷ filter test xs else filter test xs)
kept test g true x xs rest h = ap (λ (ys : List _). g x ++ ys) h ∙ sym (flat_map-cons g x (filter test xs))
kept test g false x xs rest h = h

each_kept : {A B : Type 0} (test : A → Bool) (g : A → List B) (k : ℕ) (xs : List A) → each_from (λ i x. if test x then g x else []) k xs ≡ flat_map g (filter test xs)
each_kept test g k [] = refl
each_kept test g k (x ∷ xs) = kept test g (test x) x xs (each_from (λ i x. if test x then g x else []) (suc k) xs) (each_kept test g (suc k) xs)

module _ {B : Type 0} (rec : AsmRec) (tokens : List ℕ) where
  -- each with its number
  pub numbered_rows : (g f : ℕ → CustomAttributeRow → List B) → ((k : ℕ) (row : CustomAttributeRow) → f k row ≡ (if has_parent tokens row then g k row else []))
      → flat_map (λ k. option_map_or (g k) (slice_get rec.custom_attribute k) []) (rows_of_tokens rec tokens) ≡ each_row f rec.custom_attribute
  numbered_rows g f by = each_places (λ (r : CustomAttributeRow). r.parent) (is_one_of tokens) g f by rec.custom_attribute

  pub item_rows : (g : CustomAttributeRow → List B)
      → flat_map (λ k. option_map_or g (slice_get rec.custom_attribute k) []) (rows_of_tokens rec tokens) ≡ flat_map g (filter (has_parent tokens) rec.custom_attribute)
  item_rows g = numbered_rows (λ k. g) (λ k row. if has_parent tokens row then g row else []) (λ k row. refl) ∙ each_kept (has_parent tokens) g 0 rec.custom_attribute
