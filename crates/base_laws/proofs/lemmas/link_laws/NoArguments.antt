-- Without generic arguments a type stays as it is.
use Rattle.std.proofs.Common.{◌≡◌, ℕ, List, [], ◌∷◌, map, refl, sym, ap, subst as transport, ◌∙◌}
use Rattle.il_base.specs.declared.sig.Sig.{Sig}
use Rattle.il_base.specs.declared.world_model.known.Known as known
use Rattle.il_base.specs.declared.world_model.known.Known.TheVariants.{Good, Bad}
use Rattle.il_base.specs.declared.world_model.expr.TypeExpr.{TypeExpr, ind-TypeExpr, roll-TypeExpr}
use Rattle.il_base.specs.declared.world_model.expr.TypeExpr.TheFolds.{map-TypeExpr}
use Rattle.il_base.specs.declared.world_model.expr.TypeExpr.TheOpen.{TypeExpr-F}
use Rattle.il_base.specs.declared.world_model.expr.TypeExpr.TheVariants as expr
use Rattle.il_base.specs.declared.world_model.record.AsmRec.{AsmRec}
use Rattle.il_base.specs.declared.world_model.world.TypeLink.{TypeLink}
use Rattle.il_base.specs.world_model.Exprs.{subst}
use Rattle.il_base.specs.world_model.Worlds.{known_map, sig_expr, names_by, expr_by}
use Rattle.il_base.proofs.lemmas.world_model.ExprLayers.{subst_prim, subst_def, subst_inst, subst_array, subst_by_ref, subst_var, subst_mvar, subst_mod}

abbrev Stays : TypeExpr → Type 0
Stays e = subst [] [] e ≡ e

abbrev Part : Type 0
Part = (e : TypeExpr) × Stays e

abbrev whole : TypeExpr-F Part → TypeExpr-F TypeExpr
whole y = map-TypeExpr Part TypeExpr (λ e. e.0) y

args_stay : (xs : List Part) → map (subst [] []) (map (λ e. e.0) xs) ≡ map (λ e. e.0) xs
args_stay [] = refl
args_stay (x ∷ xs) = λ i. x.1 i ∷ args_stay xs i

-- a construct and its layer
around : (x : TypeExpr-F TypeExpr) (e : TypeExpr) → roll-TypeExpr x ≡ e → Stays e → Stays (roll-TypeExpr x)
around x e is stays = ap (subst [] []) is ∙ stays ∙ sym is

layer_stays : (y : TypeExpr-F Part) → Stays (roll-TypeExpr (whole y))
layer_stays (TypeExpr-F.Prim n) = around (TypeExpr-F.Prim n) (expr.Prim n) (expr.rolls-Prim n) (subst_prim [] [] n)
layer_stays (TypeExpr-F.Def t) = around (TypeExpr-F.Def t) (expr.Def t) (expr.rolls-Def t) (subst_def [] [] t)
layer_stays (TypeExpr-F.Inst t xs) =
    around (TypeExpr-F.Inst t (map (λ e. e.0) xs)) (expr.Inst t (map (λ e. e.0) xs)) (expr.rolls-Inst t (map (λ e. e.0) xs)) (subst_inst [] [] t (map (λ e. e.0) xs) ∙ ap (expr.Inst t) (args_stay xs))
layer_stays (TypeExpr-F.Array x) = around (TypeExpr-F.Array x.0) (expr.Array x.0) (expr.rolls-Array x.0) (subst_array [] [] x.0 ∙ ap expr.Array x.1)
layer_stays (TypeExpr-F.ByRef x) = around (TypeExpr-F.ByRef x.0) (expr.ByRef x.0) (expr.rolls-ByRef x.0) (subst_by_ref [] [] x.0 ∙ ap expr.ByRef x.1)
layer_stays (TypeExpr-F.Var n) = around (TypeExpr-F.Var n) (expr.Var n) (expr.rolls-Var n) (subst_var [] [] n)
layer_stays (TypeExpr-F.MVar n) = around (TypeExpr-F.MVar n) (expr.MVar n) (expr.rolls-MVar n) (subst_mvar [] [] n)
layer_stays (TypeExpr-F.Mod required by x) =
    around (TypeExpr-F.Mod required by x.0) (expr.Mod required by x.0) (expr.rolls-Mod required by x.0) (subst_mod [] [] required by x.0 ∙ ap (expr.Mod required by) x.1)

pub stays : (e : TypeExpr) → subst [] [] e ≡ e
stays = ind-TypeExpr Stays (λ x y is. transport (λ z. Stays (roll-TypeExpr z)) is (layer_stays y))

known_stays : (k : known.Known TypeExpr) → known_map (subst [] []) k ≡ k
known_stays (Good e) = ap Good (stays e)
known_stays (Bad why) = refl

pub plain_expr : (all : List AsmRec) (links : List TypeLink) (a : ℕ) (s : Sig) → expr_by all links a [] [] s ≡ sig_expr (names_by all links a) s
unfolding expr_by
plain_expr all links a s = known_stays (sig_expr (names_by all links a) s)
