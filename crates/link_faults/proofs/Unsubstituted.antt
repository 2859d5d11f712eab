-- A type with no arguments put in is the type itself.
use Rattle.std.proofs.Common.{◌≡◌, ℕ, List, [], ◌∷◌, map, refl, sym, ap, subst, ◌∙◌}
use Rattle.il_base.specs.declared.sig.Sig.{Sig}
use Rattle.il_base.specs.declared.world_model.known.Known.{Known}
use Rattle.il_base.specs.declared.world_model.known.Known.TheVariants.{Good, Bad}
use Rattle.il_base.specs.declared.world_model.expr.TypeExpr.{TypeExpr, fold-roll-TypeExpr, ind-TypeExpr, roll-TypeExpr}
use Rattle.il_base.specs.declared.world_model.expr.TypeExpr.TheFolds.{map-TypeExpr}
use Rattle.il_base.specs.declared.world_model.expr.TypeExpr.TheOpen.{TypeExpr-F}
use Rattle.il_base.specs.declared.world_model.expr.TypeExpr.TheVariants as expr
use Rattle.il_base.specs.declared.world_model.record.AsmRec.{AsmRec}
use Rattle.il_base.specs.declared.world_model.world.TypeLink.{TypeLink}
use Rattle.il_base.specs.world_model.Exprs as exprs
use Rattle.il_base.specs.world_model.Worlds.{known_map, sig_expr, names_by, expr_by}

-- a part that stays
abbrev Stays : TypeExpr → Type 0
Stays e = exprs.subst [] [] e ≡ e

abbrev Part : Type 0
Part = (e : TypeExpr) × Stays e

abbrev whole : TypeExpr-F Part → TypeExpr-F TypeExpr
whole y = map-TypeExpr Part TypeExpr (λ e. e.0) y

args_stay : (xs : List Part) → map (exprs.subst [] []) (map (λ e. e.0) xs) ≡ map (λ e. e.0) xs
args_stay [] = refl
args_stay (x ∷ xs) = λ i. x.1 i ∷ args_stay xs i

layer_stays : (y : TypeExpr-F Part) → exprs.subst_layer [] [] (map-TypeExpr TypeExpr TypeExpr (exprs.subst [] []) (whole y)) ≡ roll-TypeExpr (whole y)
layer_stays (TypeExpr-F.Prim n) = sym (expr.rolls-Prim n)
layer_stays (TypeExpr-F.Def t) = sym (expr.rolls-Def t)
layer_stays (TypeExpr-F.Inst t xs) = ap (λ (args : List TypeExpr). expr.Inst t args) (args_stay xs) ∙ sym (expr.rolls-Inst t (map (λ e. e.0) xs))
layer_stays (TypeExpr-F.Array x) = ap (λ (e : TypeExpr). expr.Array e) x.1 ∙ sym (expr.rolls-Array x.0)
layer_stays (TypeExpr-F.ByRef x) = ap (λ (e : TypeExpr). expr.ByRef e) x.1 ∙ sym (expr.rolls-ByRef x.0)
layer_stays (TypeExpr-F.Var n) = sym (expr.rolls-Var n)
layer_stays (TypeExpr-F.MVar n) = sym (expr.rolls-MVar n)
layer_stays (TypeExpr-F.Mod required by x) = ap (λ (e : TypeExpr). expr.Mod required by e) x.1 ∙ sym (expr.rolls-Mod required by x.0)

rolled_stays : (y : TypeExpr-F Part) → Stays (roll-TypeExpr (whole y))
unfolding exprs.subst
rolled_stays y = fold-roll-TypeExpr TypeExpr (exprs.subst_layer [] []) (whole y) ∙ layer_stays y

pub stays : (e : TypeExpr) → Stays e
stays = ind-TypeExpr Stays (λ x y is. subst (λ z. Stays (roll-TypeExpr z)) is (rolled_stays y))

known_stays : (k : Known TypeExpr) → known_map (exprs.subst [] []) k ≡ k
known_stays (Good e) = ap (λ (x : TypeExpr). Good x) (stays e)
known_stays (Bad why) = refl

pub plain_expr : (recs : List AsmRec) (links : List TypeLink) (a : ℕ) (s : Sig) → expr_by recs links a [] [] s ≡ sig_expr (names_by recs links a) s
unfolding expr_by
plain_expr recs links a s = known_stays (sig_expr (names_by recs links a) s)
