-- Rows with a wanted name among numbers in order, and properties and events among those of the rows of a map.
use Rattle.std.proofs.Common.{◌≡◌, ℕ, suc, ◌+◌, ◌-◌, ◌<◌, List, [], ◌∷◌, ◌++◌, map, Bool, true, false, Option, Some, None, refl, sym, ap, ◌∙◌, arith}
use Rattle.std.specs.Prelude.{◌==◌, slice_get, if◌then◌else◌}
use Rattle.std.specs.List.{flat_map, filter, range_with_len}
use Rattle.std.specs.Option.{option_map, option_map_or}
use Rattle.std.proofs.lemmas.List.{append_assoc}
use Rattle.il_base.specs.declared.world_model.members.PropertyMapRow.{PropertyMapRow}
use Rattle.il_base.specs.declared.world_model.members.EventMapRow.{EventMapRow}
use Rattle.il_base.specs.declared.world_model.record.AsmRec.{AsmRec}
use Rattle.il_base.specs.world_model.Tokens.{token_of}
use Rattle.rules.specs.declared.link_rules.row_at.RowAt.{RowAt}
use Rattle.rules.specs.link_rules.Types.{at_row}
use Rattle.rules.specs.type_rules.Searches as searches
use Rattle.type_tables.specs.declared.tables.RowTables.{RowTables}
use Rattle.type_tables.specs.Tables.{AreRowTables}
use Rattle.type_tables.proofs.Grouped.{flat_grouped}
use Rattle.virtual_calls.specs.declared.named_members.kinds.Mapped.{Mapped}
use Rattle.virtual_calls.specs.declared.named_members.kinds.Mapped.TheVariants.{Property, Event}
use Rattle.virtual_calls.specs.named_members.Mapped.{map_rows, property_run, event_run, has_name, named_in_run, named_under, named_places}
use Rattle.virtual_calls.proofs.lemmas.named_members.Lists.{map_filter_flat, map_filter_if, flat_agree}

-- the rows, of some numbers from a start on, that pass a test
module _ (passes : ℕ → Bool) (asm : ℕ) where
  abbrev pub rows_from : ℕ → ℕ → List RowAt
  rows_from k n = map (at_row asm) (filter passes (range_with_len k n))

  -- one number more
  one_more : (k n : ℕ) (b : Bool) → passes k ≡ b → rows_from k (suc n) ≡ (if b then at_row asm k ∷ rows_from (k + 1) n else rows_from (k + 1) n)
  one_more k n true e = rw e refl
  one_more k n false e = rw e refl

  pub named_next : (found : List RowAt) (k end : ℕ) → k < end → passes k ≡ true → (found ++ at_row asm k ∷ []) ++ rows_from (k + 1) (end - (k + 1)) ≡ found ++ rows_from k (end - k)
  named_next found k end h e =
      let n : end - k ≡ suc (end - (k + 1)) = omega arith in
      append_assoc found (at_row asm k ∷ []) (rows_from (k + 1) (end - (k + 1)))
      ∙ ap (λ (xs : List RowAt). found ++ xs) (sym (one_more k (end - (k + 1)) true e) ∙ ap (rows_from k) (sym n))

  pub other_next : (found : List RowAt) (k end : ℕ) → k < end → passes k ≡ false → found ++ rows_from (k + 1) (end - (k + 1)) ≡ found ++ rows_from k (end - k)
  other_next found k end h e =
      let n : end - k ≡ suc (end - (k + 1)) = omega arith in
      ap (λ (xs : List RowAt). found ++ xs) (sym (one_more k (end - (k + 1)) false e) ∙ ap (rows_from k) (sym n))

-- what a row of a map lists is what its run has
under_option : {A B C : Type 0} (g : B → List C) (h : A → B) (o : Option A) → option_map_or g (option_map h o) [] ≡ option_map_or (λ x. g (h x)) o []
under_option g h None = refl
under_option g h (Some x) = refl

module _ (rec : AsmRec) (tables : RowTables) (are : AreRowTables rec tables) (at : RowAt) (wanted : Option (List ℕ)) where
  pub named_in_map : (m : Mapped) → flat_map (named_under m rec at.asm wanted) (map_rows m tables (token_of 0x02 (suc at.row))) ≡ named_places m rec wanted at
  named_in_map Property =
      let token : ℕ = token_of 0x02 (suc at.row) in
      let g : PropertyMapRow → List RowAt = λ row. named_in_run Property rec at.asm wanted (property_run row) in
      let f : PropertyMapRow → List RowAt = λ row. map (at_row at.asm) (filter (has_name Property rec wanted) (searches.property_run rec token row)) in
      flat_agree (named_under Property rec at.asm wanted) (λ k. option_map_or g (slice_get rec.property_map k) [])
      (λ k. under_option (named_in_run Property rec at.asm wanted) property_run (slice_get rec.property_map k)) (map_rows Property tables token)
      ∙ flat_grouped (λ (r : PropertyMapRow). r.parent) token rec.property_map tables.properties are.properties g f
      (λ row. map_filter_if (at_row at.asm) (has_name Property rec wanted) (row.parent == token) (searches.places row.property_list_first row.property_list_end rec.property))
      ∙ sym (map_filter_flat (at_row at.asm) (has_name Property rec wanted) (searches.property_run rec token) rec.property_map)
  named_in_map Event =
      let token : ℕ = token_of 0x02 (suc at.row) in
      let g : EventMapRow → List RowAt = λ row. named_in_run Event rec at.asm wanted (event_run row) in
      let f : EventMapRow → List RowAt = λ row. map (at_row at.asm) (filter (has_name Event rec wanted) (searches.event_run rec token row)) in
      flat_agree (named_under Event rec at.asm wanted) (λ k. option_map_or g (slice_get rec.event_map k) [])
      (λ k. under_option (named_in_run Event rec at.asm wanted) event_run (slice_get rec.event_map k)) (map_rows Event tables token)
      ∙ flat_grouped (λ (r : EventMapRow). r.parent) token rec.event_map tables.events are.events g f
      (λ row. map_filter_if (at_row at.asm) (has_name Event rec wanted) (row.parent == token) (searches.places row.event_list_first row.event_list_end rec.event))
      ∙ sym (map_filter_flat (at_row at.asm) (has_name Event rec wanted) (searches.event_run rec token) rec.event_map)
