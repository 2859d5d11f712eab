-- The flaws of a row of MethodImpl, by its class and its body.
use Rattle.std.proofs.Common.{◌≡◌, ℕ, List, [], ◌∷◌, ◌++◌, map, Bool, Option, Some, None, refl, sym, ap, ◌∙◌}
use Rattle.std.specs.Prelude.{slice_get}
use Rattle.std.specs.List.{flat_map}
use Rattle.std.specs.Option.{option_and_then}
use Rattle.std.proofs.lemmas.List.{append-nil}
use Rattle.il_base.specs.declared.ids.Item.{Item}
use Rattle.il_base.specs.declared.table.TheConstants.{TYPE_DEF}
use Rattle.il_base.specs.declared.world_model.known.Known.{Known}
use Rattle.il_base.specs.declared.world_model.known.Known.TheVariants.{Good, Bad}
use Rattle.il_base.specs.declared.world_model.expr.MethodUse.{MethodUse}
use Rattle.il_base.specs.declared.world_model.members.MethodImplRow.{MethodImplRow}
use Rattle.il_base.specs.declared.world_model.record.AsmRec.{AsmRec}
use Rattle.il_base.specs.world_model.Tokens.{index_in}
use Rattle.rules.specs.link_rules.Members.{generic_method}
use Rattle.rules.specs.link_rules.Cycles.{listed}
use Rattle.rules.specs.type_rules.Dispatch.{good_use}
use Rattle.type_tables.specs.Uses.{use_in}
use Rattle.base_laws.specs.flaw_laws.Listed.{row_flaws, impl_flaws_by}
use Rattle.bad_items.specs.Rows.{impl_row, kept_flaws}

abbrev good_body : Known MethodUse → List MethodUse
good_body (Good u) = u ∷ []
good_body (Bad why) = []

module _ (recs : List AsmRec) (have : Item → Bool) (a : ℕ) (rec : AsmRec) (k : ℕ) (row : MethodImplRow) where
  by_parts : (o : Option ℕ) (x : Known MethodUse) → flat_map (row_flaws have) (flat_map (λ c. map (impl_row recs a rec k row c) (good_body x)) (listed o)) ≡ kept_flaws recs have a rec k row o (good_use x)
  by_parts None x = refl
  by_parts (Some c) (Good u) = sym (append-nil (row_flaws have (impl_row recs a rec k row c u) ++ []))
  by_parts (Some c) (Bad why) = refl

  -- by what the code has of the two
  pub kept_are : slice_get recs a ≡ Some rec → (class : Option ℕ) (body : Option MethodUse) → class ≡ index_in TYPE_DEF row.class → body ≡ use_in recs a row.body
      → kept_flaws recs have a rec k row class body ≡ impl_flaws_by recs have a rec k row
  kept_are here class body c b =
      ap (λ (o : Option ℕ). kept_flaws recs have a rec k row o body) c
      ∙ ap (kept_flaws recs have a rec k row (index_in TYPE_DEF row.class)) (b ∙ ap (λ (o : Option AsmRec). option_and_then (λ r. good_use (generic_method recs a r row.body)) o) here)
      ∙ sym (by_parts (index_in TYPE_DEF row.class) (generic_method recs a rec row.body))
