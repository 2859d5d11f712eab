-- Steps of loops over rows, place by place.
use Rattle.std.proofs.Common.{◌≡◌, ℕ, ◌+◌, ◌<◌, List, ◌++◌, length, drop, get_or, Some, sym, ap, ◌∙◌}
use Rattle.std.specs.Prelude.{slice_get, Bool}
use Rattle.std.proofs.lemmas.List.{append-nil, get_or_default}
use Rattle.il_base.specs.declared.ids.Item.{Item}
use Rattle.il_base.specs.declared.world_model.record.AsmRec.{AsmRec}
use Rattle.rules.specs.type_rules.Rows.{each_from}
use Rattle.attribute_values.proofs.lemmas.enum_names.Finding.{each_next}
use Rattle.base_laws.specs.flaw_laws.Listed.{impl_flaws_in}
use Rattle.bad_items.specs.Rows.{impl_flaws_at}

-- the row in a place, with any default
pub next_row : {A B : Type 0} (f : ℕ → A → List B) (xs : List A) (i : ℕ) (d : A) (out : List B) → i < length xs
    → (out ++ f i (get_or xs i d)) ++ each_from f (i + 1) (drop (i + 1) xs) ≡ out ++ each_from f i (drop i xs)
next_row f xs i d out lt = each_next f xs i (get_or xs i d) out lt (sym (get_or_default xs i (get_or xs i d) d lt))

-- the assembly in a place
pub at_place : (recs all : List AsmRec) (have : Item → Bool) → all ≡ recs → (a place : ℕ) → place ≡ a → (rec : AsmRec) → slice_get all a ≡ Some rec
    → impl_flaws_at recs have place (slice_get recs place) ≡ impl_flaws_in recs have a rec
at_place recs all have e a place p rec here =
    ap (λ (n : ℕ). impl_flaws_at recs have n (slice_get recs n)) p ∙ ap (impl_flaws_at recs have a) (ap (λ (rs : List AsmRec). slice_get rs a) (sym e) ∙ here)
    ∙ append-nil (impl_flaws_in recs have a rec)
