-- The type that has a method, by its row alone.
use Rattle.std.proofs.Common.{◌≡◌, ℕ, suc, List, refl, ap, ◌∙◌}
use Rattle.std.specs.Prelude.{Option, Some, None, slice_get}
use Rattle.std.specs.List.{position_from}
use Rattle.std.specs.Option.{option_map, option_and_then}
use Rattle.il_base.specs.declared.world_model.record.AsmRec.{AsmRec}
use Rattle.rules.specs.declared.link_rules.row_at.RowAt.{RowAt}
use Rattle.rules.specs.link_rules.Types.{at_row}
use Rattle.rules.specs.link_rules.Members.{owns_method}
use Rattle.rules.specs.type_rules.Slots.{type_of_method}

row_back : (a : ℕ) (o : Option ℕ) → option_map (λ (at : RowAt). at.row) (option_map (at_row a) o) ≡ o
row_back a None = refl
row_back a (Some k) = refl

-- by the row of what the tables answer
pub owner_row : (recs : List AsmRec) (a k : ℕ) (rec : AsmRec) → slice_get recs a ≡ Some rec → (found : Option RowAt) → found ≡ type_of_method recs (at_row a k)
    → option_map (λ (at : RowAt). at.row) found ≡ position_from (owns_method (suc k)) 0 rec.type_def
owner_row recs a k rec h found e =
    ap (option_map (λ (at : RowAt). at.row))
    (e ∙ ap (option_and_then (λ (r : AsmRec). option_map (at_row a) (position_from (owns_method (suc k)) 0 r.type_def))) h)
    ∙ row_back a (position_from (owns_method (suc k)) 0 rec.type_def)
