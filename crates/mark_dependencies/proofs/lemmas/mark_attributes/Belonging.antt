-- What the attributes of an item mark, by its row.
use Rattle.std.proofs.Common.{◌≡◌, ℕ, List, [], ◌++◌, refl, sym, ap, ◌∙◌}
use Rattle.std.specs.Prelude.{Option, Some, None, slice_get}
use Rattle.std.specs.List.{flat_map, filter}
use Rattle.std.proofs.lemmas.List.{append-nil}
use Rattle.il_base.specs.declared.ids.Item.{Item}
use Rattle.il_base.specs.declared.world_model.extras.CustomAttributeRow.{CustomAttributeRow}
use Rattle.il_base.specs.declared.world_model.record.AsmRec.{AsmRec}
use Rattle.rules.specs.declared.link_rules.row_at.RowAt.{RowAt}
use Rattle.rules.specs.link_rules.Cycles.{listed}
use Rattle.rules.specs.type_rules.Rows.{rec_at}
use Rattle.rules.specs.mark_rules.Places.{row_of}
use Rattle.rules.specs.mark_rules.Attributes.{has_parent, tokens_in, attribute_facts, attributes_of, attribute_needs}
use Rattle.mark_dependencies.specs.mark_attributes.Needs.{facts_in, item_facts}

module _ (recs : List AsmRec) (i : Item) where
  rows_in : RowAt → AsmRec → List CustomAttributeRow
  rows_in at rec = filter (has_parent (tokens_in i at.row rec)) rec.custom_attribute

  by_rec : (at : RowAt) (o : Option AsmRec)
      → flat_map (λ (rec : AsmRec). flat_map (attribute_facts recs at.asm rec) (flat_map (rows_in at) (listed o) ++ [])) (listed o) ++ [] ≡ flat_map (facts_in recs i at) (listed o) ++ []
  unfolding rows_in
  by_rec at None = refl
  by_rec at (Some rec) =
      ap (λ (rows : List CustomAttributeRow). (flat_map (attribute_facts recs at.asm rec) rows ++ []) ++ [])
      (append-nil (rows_in at rec ++ []) ∙ append-nil (rows_in at rec))

  by_row : (o : Option RowAt)
      → flat_map (λ (at : RowAt). flat_map (λ (rec : AsmRec). flat_map (attribute_facts recs at.asm rec) (flat_map (λ (at : RowAt). flat_map (rows_in at) (listed (rec_at recs at))) (listed o))) (listed (rec_at recs at))) (listed o)
      ≡ flat_map (item_facts recs i) (listed o)
  by_row None = refl
  by_row (Some at) = by_rec at (rec_at recs at)

  pub needs_are : flat_map (item_facts recs i) (listed (row_of recs i)) ≡ attribute_needs recs i
  unfolding attribute_needs attributes_of rows_in
  needs_are = sym (by_row (row_of recs i))

  -- of the assembly in its place
  pub facts_here : (at : RowAt) (own : List AsmRec) (a : ℕ) (rec there : AsmRec) → own ≡ recs → a ≡ at.asm → rec ≡ there → slice_get recs at.asm ≡ Some there
      → flat_map (attribute_facts own a rec) (filter (has_parent (tokens_in i at.row rec)) rec.custom_attribute) ≡ item_facts recs i at
  facts_here at own a rec there o p r h =
      ap (λ (xs : List AsmRec). flat_map (attribute_facts xs a rec) (filter (has_parent (tokens_in i at.row rec)) rec.custom_attribute)) o
      ∙ ap (λ (n : ℕ). flat_map (attribute_facts recs n rec) (filter (has_parent (tokens_in i at.row rec)) rec.custom_attribute)) p
      ∙ ap (λ (x : AsmRec). facts_in recs i at x) r
      ∙ sym (append-nil (facts_in recs i at there))
      ∙ ap (λ (x : Option AsmRec). flat_map (facts_in recs i at) (listed x)) (sym h)
