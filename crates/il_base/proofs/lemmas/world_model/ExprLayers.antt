-- Substitution and levels of a type expression by its outermost construct.
use Rattle.std.proofs.Common.{◌≡◌, ℕ, suc, Bool, List, map, sym, ap, ◌∙◌}
use Rattle.il_base.specs.declared.ids.TypeId.{TypeId}
use Rattle.il_base.specs.declared.world_model.expr.TypeExpr.{TypeExpr, fold-TypeExpr, fold-roll-TypeExpr}
use Rattle.il_base.specs.declared.world_model.expr.TypeExpr.TheOpen.{TypeExpr-F}
use Rattle.il_base.specs.declared.world_model.expr.TypeExpr.TheVariants as expr
use Rattle.il_base.specs.world_model.Exprs.{arg_or, subst_layer, subst, deepest, levels_layer, levels}

module _ (targs margs : List TypeExpr) where
  pub subst_prim : (n : ℕ) → subst targs margs (expr.Prim n) ≡ expr.Prim n
  unfolding subst
  subst_prim n = ap (fold-TypeExpr TypeExpr (subst_layer targs margs)) (sym (expr.rolls-Prim n)) ∙ fold-roll-TypeExpr TypeExpr (subst_layer targs margs) (TypeExpr-F.Prim n)

  pub subst_def : (t : TypeId) → subst targs margs (expr.Def t) ≡ expr.Def t
  unfolding subst
  subst_def t = ap (fold-TypeExpr TypeExpr (subst_layer targs margs)) (sym (expr.rolls-Def t)) ∙ fold-roll-TypeExpr TypeExpr (subst_layer targs margs) (TypeExpr-F.Def t)

  pub subst_inst : (t : TypeId) (args : List TypeExpr) → subst targs margs (expr.Inst t args) ≡ expr.Inst t (map (subst targs margs) args)
  unfolding subst
  subst_inst t args = ap (fold-TypeExpr TypeExpr (subst_layer targs margs)) (sym (expr.rolls-Inst t args)) ∙ fold-roll-TypeExpr TypeExpr (subst_layer targs margs) (TypeExpr-F.Inst t args)

  pub subst_array : (e : TypeExpr) → subst targs margs (expr.Array e) ≡ expr.Array (subst targs margs e)
  unfolding subst
  subst_array e = ap (fold-TypeExpr TypeExpr (subst_layer targs margs)) (sym (expr.rolls-Array e)) ∙ fold-roll-TypeExpr TypeExpr (subst_layer targs margs) (TypeExpr-F.Array e)

  pub subst_by_ref : (e : TypeExpr) → subst targs margs (expr.ByRef e) ≡ expr.ByRef (subst targs margs e)
  unfolding subst
  subst_by_ref e = ap (fold-TypeExpr TypeExpr (subst_layer targs margs)) (sym (expr.rolls-ByRef e)) ∙ fold-roll-TypeExpr TypeExpr (subst_layer targs margs) (TypeExpr-F.ByRef e)

  pub subst_var : (n : ℕ) → subst targs margs (expr.Var n) ≡ arg_or targs n (expr.Var n)
  unfolding subst
  subst_var n = ap (fold-TypeExpr TypeExpr (subst_layer targs margs)) (sym (expr.rolls-Var n)) ∙ fold-roll-TypeExpr TypeExpr (subst_layer targs margs) (TypeExpr-F.Var n)

  pub subst_mvar : (n : ℕ) → subst targs margs (expr.MVar n) ≡ arg_or margs n (expr.MVar n)
  unfolding subst
  subst_mvar n = ap (fold-TypeExpr TypeExpr (subst_layer targs margs)) (sym (expr.rolls-MVar n)) ∙ fold-roll-TypeExpr TypeExpr (subst_layer targs margs) (TypeExpr-F.MVar n)

  pub subst_mod : (required : Bool) (by : TypeId) (e : TypeExpr) → subst targs margs (expr.Mod required by e) ≡ expr.Mod required by (subst targs margs e)
  unfolding subst
  subst_mod required by e = ap (fold-TypeExpr TypeExpr (subst_layer targs margs)) (sym (expr.rolls-Mod required by e)) ∙ fold-roll-TypeExpr TypeExpr (subst_layer targs margs) (TypeExpr-F.Mod required by e)

-- substitution, one level of a type at a time
pub ruleset substituting = (subst_prim, subst_def, subst_inst, subst_array, subst_by_ref, subst_var, subst_mvar, subst_mod)

pub levels_prim : (n : ℕ) → levels (expr.Prim n) ≡ 1
unfolding levels
levels_prim n = ap (fold-TypeExpr ℕ levels_layer) (sym (expr.rolls-Prim n)) ∙ fold-roll-TypeExpr ℕ levels_layer (TypeExpr-F.Prim n)

pub levels_def : (t : TypeId) → levels (expr.Def t) ≡ 1
unfolding levels
levels_def t = ap (fold-TypeExpr ℕ levels_layer) (sym (expr.rolls-Def t)) ∙ fold-roll-TypeExpr ℕ levels_layer (TypeExpr-F.Def t)

pub levels_inst : (t : TypeId) (args : List TypeExpr) → levels (expr.Inst t args) ≡ suc (deepest (map levels args))
unfolding levels
levels_inst t args = ap (fold-TypeExpr ℕ levels_layer) (sym (expr.rolls-Inst t args)) ∙ fold-roll-TypeExpr ℕ levels_layer (TypeExpr-F.Inst t args)

pub levels_array : (e : TypeExpr) → levels (expr.Array e) ≡ suc (levels e)
unfolding levels
levels_array e = ap (fold-TypeExpr ℕ levels_layer) (sym (expr.rolls-Array e)) ∙ fold-roll-TypeExpr ℕ levels_layer (TypeExpr-F.Array e)

pub levels_by_ref : (e : TypeExpr) → levels (expr.ByRef e) ≡ suc (levels e)
unfolding levels
levels_by_ref e = ap (fold-TypeExpr ℕ levels_layer) (sym (expr.rolls-ByRef e)) ∙ fold-roll-TypeExpr ℕ levels_layer (TypeExpr-F.ByRef e)

pub levels_var : (n : ℕ) → levels (expr.Var n) ≡ 1
unfolding levels
levels_var n = ap (fold-TypeExpr ℕ levels_layer) (sym (expr.rolls-Var n)) ∙ fold-roll-TypeExpr ℕ levels_layer (TypeExpr-F.Var n)

pub levels_mvar : (n : ℕ) → levels (expr.MVar n) ≡ 1
unfolding levels
levels_mvar n = ap (fold-TypeExpr ℕ levels_layer) (sym (expr.rolls-MVar n)) ∙ fold-roll-TypeExpr ℕ levels_layer (TypeExpr-F.MVar n)

pub levels_mod : (required : Bool) (by : TypeId) (e : TypeExpr) → levels (expr.Mod required by e) ≡ suc (levels e)
unfolding levels
levels_mod required by e = ap (fold-TypeExpr ℕ levels_layer) (sym (expr.rolls-Mod required by e)) ∙ fold-roll-TypeExpr ℕ levels_layer (TypeExpr-F.Mod required by e)
