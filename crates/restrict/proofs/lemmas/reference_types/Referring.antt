-- The types that have rows, type by type.
use Rattle.std.proofs.Common.{◌≡◌, List, [], ◌∷◌, ◌++◌, Bool, true, false, refl, ap, ◌∙◌}
use Rattle.std.specs.Prelude.{if◌then◌else◌}
use Rattle.std.specs.List.{flat_map, filter}
use Rattle.il_base.specs.declared.ids.TypeId.{TypeId}
use Rattle.il_base.specs.declared.world_model.record.AsmRec.{AsmRec}
use Rattle.rules.specs.merge_rules.Refs.{is_reference, with_scopes, most_scopes}
use Rattle.restrict.specs.reference_types.Types.{referred, all_referred}

module _ (recs : List AsmRec) where
  one_more : (t : TypeId) (ts : List TypeId) (b : Bool)
      → (if b then with_scopes recs (most_scopes recs) t else []) ++ flat_map (with_scopes recs (most_scopes recs)) ts ≡ flat_map (with_scopes recs (most_scopes recs)) (if b then t ∷ ts else ts)
  one_more t ts true = refl
  one_more t ts false = refl

  pub referred_are : (ts : List TypeId) → all_referred recs ts ≡ flat_map (with_scopes recs (most_scopes recs)) (filter (is_reference recs) ts)
  referred_are [] = refl
  referred_are (t ∷ ts) = ap (λ (xs : List TypeId). referred recs t ++ xs) (referred_are ts) ∙ one_more t (filter (is_reference recs) ts) (is_reference recs t)
