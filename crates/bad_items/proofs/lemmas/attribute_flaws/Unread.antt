-- The flaws of an item's attribute rows, by their places.
use Rattle.std.proofs.Common.{◌≡◌, ℕ, suc, List, [], Bool, true, false, refl, ap, ◌∙◌}
use Rattle.std.specs.Prelude.{slice_get, ◌&&◌, if◌then◌else◌}
use Rattle.std.specs.List.{flat_map}
use Rattle.std.specs.Option.{option_map_or}
use Rattle.il_base.specs.declared.ids.Item.{Item}
use Rattle.il_base.specs.declared.table.TheConstants.{CUSTOM_ATTRIBUTE}
use Rattle.il_base.specs.declared.outside.TheConstants as outside
use Rattle.il_base.specs.declared.world_model.extras.CustomAttributeRow.{CustomAttributeRow}
use Rattle.il_base.specs.declared.world_model.record.AsmRec.{AsmRec}
use Rattle.il_base.specs.world_model.Tokens.{token_of}
use Rattle.rules.specs.declared.link_rules.row_at.RowAt.{RowAt}
use Rattle.rules.specs.mark_rules.Attributes.{has_parent, tokens_in}
use Rattle.rules.specs.mark_rules.BadItems.{flaw_if, has_no_reading, attribute_flaw, attribute_flaws}
use Rattle.attribute_values.specs.attribute_rows.Parents.{rows_of_tokens}
use Rattle.attribute_values.proofs.lemmas.attribute_rows.Among.{numbered_rows}
use Rattle.bad_items.specs.attribute_flaws.Rows.{has_to_be_read, unread_flaw}

kept : (own wanted unread : Bool) (at : RowAt) (token what : ℕ) → flaw_if (own && wanted && unread) at token what ≡ (if own then flaw_if (wanted && unread) at token what else [])
kept true wanted unread at token what = refl
kept false wanted unread at token what = refl

module _ (recs : List AsmRec) (i : Item) (at : RowAt) (rec : AsmRec) where
  by_parent : (k : ℕ) (row : CustomAttributeRow) → attribute_flaw recs i at rec k row ≡ (if has_parent (tokens_in i at.row rec) row then unread_flaw recs at.asm rec at k row else [])
  by_parent k row =
      kept (has_parent (tokens_in i at.row rec) row) (has_to_be_read recs at.asm rec row) (has_no_reading recs at.asm rec row) at (token_of CUSTOM_ATTRIBUTE (suc k)) outside.ATTRIBUTE

  pub flaws_are : (a : ℕ) (rows : List ℕ) → a ≡ at.asm → rows ≡ rows_of_tokens rec (tokens_in i at.row rec)
      → flat_map (λ k. option_map_or (unread_flaw recs a rec at k) (slice_get rec.custom_attribute k) []) rows ≡ attribute_flaws recs i at rec
  flaws_are a rows p r =
      ap (λ (n : ℕ). flat_map (λ k. option_map_or (unread_flaw recs n rec at k) (slice_get rec.custom_attribute k) []) rows) p
      ∙ ap (flat_map (λ k. option_map_or (unread_flaw recs at.asm rec at k) (slice_get rec.custom_attribute k) [])) r
      ∙ numbered_rows rec (tokens_in i at.row rec) (unread_flaw recs at.asm rec at) (attribute_flaw recs i at rec) by_parent
