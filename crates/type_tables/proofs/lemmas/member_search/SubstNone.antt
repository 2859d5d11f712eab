-- A type where no arguments are put in.
use Rattle.std.proofs.Common.{◌≡◌, List, [], ◌∷◌, map, refl, sym, ap, subst, ◌∙◌}
use Rattle.il_base.specs.declared.world_model.expr.TypeExpr.{TypeExpr, fold-roll-TypeExpr, ind-TypeExpr, roll-TypeExpr}
use Rattle.il_base.specs.declared.world_model.expr.TypeExpr.TheFolds.{map-TypeExpr}
use Rattle.il_base.specs.declared.world_model.expr.TypeExpr.TheOpen.{TypeExpr-F}
use Rattle.il_base.specs.declared.world_model.expr.TypeExpr.TheVariants as expr
use Rattle.il_base.specs.world_model.Exprs as exprs

abbrev put_none : TypeExpr → TypeExpr
put_none e = exprs.subst [] [] e

abbrev Stays : TypeExpr → Type 0
Stays e = put_none e ≡ e

-- a part with what is known of it
abbrev Part : Type 0
Part = (e : TypeExpr) × Stays e

abbrev parts : TypeExpr-F Part → TypeExpr-F TypeExpr
parts y = map-TypeExpr Part TypeExpr (λ e. e.0) y

all_stay : (xs : List Part) → map put_none (map (λ e. e.0) xs) ≡ map (λ e. e.0) xs
all_stay [] = refl
all_stay (x ∷ xs) = λ i. x.1 i ∷ all_stay xs i

layer_stays : (y : TypeExpr-F Part) → exprs.subst_layer [] [] (map-TypeExpr TypeExpr TypeExpr put_none (parts y)) ≡ roll-TypeExpr (parts y)
layer_stays (TypeExpr-F.Prim n) = sym (expr.rolls-Prim n)
layer_stays (TypeExpr-F.Def t) = sym (expr.rolls-Def t)
layer_stays (TypeExpr-F.Inst t xs) = ap (expr.Inst t) (all_stay xs) ∙ sym (expr.rolls-Inst t (map (λ e. e.0) xs))
layer_stays (TypeExpr-F.Array x) = ap expr.Array x.1 ∙ sym (expr.rolls-Array x.0)
layer_stays (TypeExpr-F.ByRef x) = ap expr.ByRef x.1 ∙ sym (expr.rolls-ByRef x.0)
layer_stays (TypeExpr-F.Var n) = sym (expr.rolls-Var n)
layer_stays (TypeExpr-F.MVar n) = sym (expr.rolls-MVar n)
layer_stays (TypeExpr-F.Mod required by x) = ap (expr.Mod required by) x.1 ∙ sym (expr.rolls-Mod required by x.0)

rolled_stays : (y : TypeExpr-F Part) → Stays (roll-TypeExpr (parts y))
unfolding exprs.subst
rolled_stays y = fold-roll-TypeExpr TypeExpr (exprs.subst_layer [] []) (parts y) ∙ layer_stays y

pub subst_none : (e : TypeExpr) → exprs.subst [] [] e ≡ e
subst_none = ind-TypeExpr Stays (λ x y is. subst (λ z. Stays (roll-TypeExpr z)) is (rolled_stays y))

pub subst_all_none : (es : List TypeExpr) → map (exprs.subst [] []) es ≡ es
subst_all_none [] = refl
subst_all_none (e ∷ es) = λ i. subst_none e i ∷ subst_all_none es i
