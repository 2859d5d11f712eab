-- Adding a list to what was added before, item by item and assembly by assembly.
use Rattle.std.proofs.Common.{◌≡◌, ℕ, suc, ◌+◌, ◌<◌, Bool, List, [], ◌∷◌, ◌++◌, length, drop, get_or, refl, ap, sym, ◌∙◌, add-one}
use Rattle.std.proofs.Math.Seq.{drop-cons}
use Rattle.std.specs.List.{flat_map}
use Rattle.std.proofs.lemmas.List.Concat.{flat_map-cons}
use Rattle.il_base.specs.declared.world_model.record.AsmRec.{AsmRec}
use Rattle.rules.specs.declared.link_rules.core_type_name.CoreTypeName.{CoreTypeName}
use Rattle.rules.specs.link_rules.Cycles.{add_new, add_all}
use Rattle.rules.specs.link_rules.CoreNames.{same_core_name, missing_in, missing_from}

add_all-append : {A : Type 0} (same : A → A → Bool) (xs ys zs : List A) → add_all same xs (ys ++ zs) ≡ add_all same (add_all same xs ys) zs
add_all-append same xs [] zs = refl
add_all-append same xs (y ∷ ys) zs = add_all-append same (add_new same xs y) ys zs

pub add_all_step : {A B : Type 0} (same : A → A → Bool) (f : B → List A) (xs : List A) (y : B) (ys : List B)
    → add_all same xs (flat_map f (y ∷ ys)) ≡ add_all same (add_all same xs (f y)) (flat_map f ys)
add_all_step same f xs y ys = ap (add_all same xs) (flat_map-cons f y ys) ∙ add_all-append same xs (f y) (flat_map f ys)

-- one assembly more
pub add_from : (all : List AsmRec) (a : ℕ) (rec : AsmRec) (now next total : List CoreTypeName) → a < length all → rec ≡ get_or all a rec → next ≡ add_all same_core_name now (missing_in all a rec)
    → add_all same_core_name now (missing_from all a (drop a all)) ≡ total → add_all same_core_name next (missing_from all (a + 1) (drop (a + 1) all)) ≡ total
add_from all a rec now next total lt is e h =
    let here : drop a all ≡ rec ∷ drop (suc a) all = drop-cons all a rec lt ∙ ap (λ (r : AsmRec). r ∷ drop (suc a) all) (sym is) in
    rw (add-one, e)
    (sym (add_all-append same_core_name now (missing_in all a rec) (missing_from all (suc a) (drop (suc a) all)))
    ∙ ap (λ (rs : List AsmRec). add_all same_core_name now (missing_from all a rs)) (sym here) ∙ h)
