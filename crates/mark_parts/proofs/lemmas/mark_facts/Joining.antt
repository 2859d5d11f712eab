-- Several lists of facts at the end of others.
use Rattle.std.proofs.Common.{◌≡◌, List, [], ◌∷◌, ◌++◌, map, refl, sym, ap, ◌∙◌, append_assoc}
use Rattle.std.specs.List.{flat_map}
use Rattle.std.proofs.lemmas.List.{map-append}
use Rattle.il_base.specs.declared.ids.TypeId.{TypeId}
use Rattle.il_base.specs.declared.world_model.expr.TypeExpr.{TypeExpr}
use Rattle.rules.specs.mark_rules.Facts.{Fact}
use Rattle.rules.specs.mark_rules.Facts.Fact.{shown}
use Rattle.rules.specs.mark_rules.Naming.{types_in}
use Rattle.mark_parts.proofs.lemmas.mark_facts.ArgumentLayers.{each_shown}

pub both_marked : (out xs : List Fact) (f : Fact) → (out ++ f ∷ []) ++ xs ≡ out ++ f ∷ xs
both_marked out xs f = append_assoc out (f ∷ []) xs

pub all_marked : (out xs ys : List Fact) (f : Fact) → ((out ++ f ∷ []) ++ xs) ++ ys ≡ out ++ (f ∷ xs ++ ys)
all_marked out xs ys f = simp append_assoc

pub both_shown : (out : List Fact) (own : List TypeId) (args : List TypeExpr)
    → (out ++ map shown own) ++ flat_map (λ e. map shown (types_in e)) args ≡ out ++ map shown (own ++ flat_map types_in args)
both_shown out own args =
    append_assoc out (map shown own) (flat_map (λ e. map shown (types_in e)) args)
    ∙ ap (λ (rest : List Fact). out ++ (map shown own ++ rest)) (sym (each_shown args)) ∙ ap (λ (rest : List Fact). out ++ rest) (sym (map-append shown own (flat_map types_in args)))
