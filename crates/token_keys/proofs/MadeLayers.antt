-- A signature that is made of a type, by the type's outermost construct.
use Rattle.std.proofs.Common.{◌≡◌, ℕ, suc, Bool, List, map, sym, ap, ◌∙◌}
use Rattle.il_base.specs.declared.ids.TypeId.{TypeId}
use Rattle.il_base.specs.declared.sig.Sig.{Sig}
use Rattle.il_base.specs.declared.sig.Sig.TheVariants as sig
use Rattle.il_base.specs.declared.world_model.expr.TypeExpr.{TypeExpr, fold-TypeExpr, fold-roll-TypeExpr}
use Rattle.il_base.specs.declared.world_model.expr.TypeExpr.TheOpen.{TypeExpr-F}
use Rattle.il_base.specs.declared.world_model.expr.TypeExpr.TheVariants as expr
use Rattle.il_base.specs.declared.world_model.record.AsmRec.{AsmRec}
use Rattle.rules.specs.merge_rules.Keys.{is_value, made_layer, made_sig}

module _ (recs : List AsmRec) where
  pub made_prim : (n : ℕ) → made_sig recs (expr.Prim n) ≡ sig.Prim n
  unfolding made_sig
  made_prim n = ap (fold-TypeExpr Sig (made_layer recs)) (sym (expr.rolls-Prim n)) ∙ fold-roll-TypeExpr Sig (made_layer recs) (TypeExpr-F.Prim n)

  pub made_def : (t : TypeId) → made_sig recs (expr.Def t) ≡ sig.Named (is_value recs t) (suc t.0)
  unfolding made_sig
  made_def t = ap (fold-TypeExpr Sig (made_layer recs)) (sym (expr.rolls-Def t)) ∙ fold-roll-TypeExpr Sig (made_layer recs) (TypeExpr-F.Def t)

  pub made_inst : (t : TypeId) (args : List TypeExpr) → made_sig recs (expr.Inst t args) ≡ sig.Inst (is_value recs t) (suc t.0) (map (made_sig recs) args)
  unfolding made_sig
  made_inst t args = ap (fold-TypeExpr Sig (made_layer recs)) (sym (expr.rolls-Inst t args)) ∙ fold-roll-TypeExpr Sig (made_layer recs) (TypeExpr-F.Inst t args)

  pub made_array : (e : TypeExpr) → made_sig recs (expr.Array e) ≡ sig.Array (made_sig recs e)
  unfolding made_sig
  made_array e = ap (fold-TypeExpr Sig (made_layer recs)) (sym (expr.rolls-Array e)) ∙ fold-roll-TypeExpr Sig (made_layer recs) (TypeExpr-F.Array e)

  pub made_by_ref : (e : TypeExpr) → made_sig recs (expr.ByRef e) ≡ sig.ByRef (made_sig recs e)
  unfolding made_sig
  made_by_ref e = ap (fold-TypeExpr Sig (made_layer recs)) (sym (expr.rolls-ByRef e)) ∙ fold-roll-TypeExpr Sig (made_layer recs) (TypeExpr-F.ByRef e)

  pub made_var : (n : ℕ) → made_sig recs (expr.Var n) ≡ sig.Var n
  unfolding made_sig
  made_var n = ap (fold-TypeExpr Sig (made_layer recs)) (sym (expr.rolls-Var n)) ∙ fold-roll-TypeExpr Sig (made_layer recs) (TypeExpr-F.Var n)

  pub made_mvar : (n : ℕ) → made_sig recs (expr.MVar n) ≡ sig.MVar n
  unfolding made_sig
  made_mvar n = ap (fold-TypeExpr Sig (made_layer recs)) (sym (expr.rolls-MVar n)) ∙ fold-roll-TypeExpr Sig (made_layer recs) (TypeExpr-F.MVar n)

  pub made_mod : (required : Bool) (by : TypeId) (e : TypeExpr) → made_sig recs (expr.Mod required by e) ≡ sig.Mod required (suc by.0) (made_sig recs e)
  unfolding made_sig
  made_mod required by e = ap (fold-TypeExpr Sig (made_layer recs)) (sym (expr.rolls-Mod required by e)) ∙ fold-roll-TypeExpr Sig (made_layer recs) (TypeExpr-F.Mod required by e)

-- one level of a type at a time
pub ruleset making = (made_prim, made_def, made_inst, made_array, made_by_ref, made_var, made_mvar, made_mod)
