-- The text of a type by its outermost construct.
use Rattle.std.proofs.Common.{◌≡◌, ℕ, ◌++◌, codes, Bool, List, map, Some, refl, sym, ap, ◌∙◌, append_assoc}
use Rattle.std.specs.Fmt.{decimal}
use Rattle.il_base.specs.declared.ids.TypeId.{TypeId}
use Rattle.il_base.specs.declared.world_model.expr.TypeExpr.{TypeExpr, fold-TypeExpr, fold-roll-TypeExpr}
use Rattle.il_base.specs.declared.world_model.expr.TypeExpr.TheOpen.{TypeExpr-F}
use Rattle.il_base.specs.declared.world_model.expr.TypeExpr.TheVariants as expr
use Rattle.il_base.specs.declared.world_model.record.AsmRec.{AsmRec}
use Rattle.il_base.specs.world_model.Worlds.{prim_type}
use Rattle.rules.specs.type_rules.Texts.{definition_text, joined, modifier_text, text_layer, text}

module _ (recs : List AsmRec) where
  pub text_prim : (n : ℕ) → text recs (expr.Prim n) ≡ definition_text recs (prim_type recs n)
  unfolding text
  text_prim n = ap (fold-TypeExpr (List ℕ) (text_layer recs)) (sym (expr.rolls-Prim n)) ∙ fold-roll-TypeExpr (List ℕ) (text_layer recs) (TypeExpr-F.Prim n)

  pub text_def : (t : TypeId) → text recs (expr.Def t) ≡ definition_text recs (Some t)
  unfolding text
  text_def t = ap (fold-TypeExpr (List ℕ) (text_layer recs)) (sym (expr.rolls-Def t)) ∙ fold-roll-TypeExpr (List ℕ) (text_layer recs) (TypeExpr-F.Def t)

  pub text_inst : (t : TypeId) (args : List TypeExpr) → text recs (expr.Inst t args) ≡ definition_text recs (Some t) ++ codes "[" ++ joined (map (text recs) args) ++ codes "]"
  unfolding text
  text_inst t args = ap (fold-TypeExpr (List ℕ) (text_layer recs)) (sym (expr.rolls-Inst t args)) ∙ fold-roll-TypeExpr (List ℕ) (text_layer recs) (TypeExpr-F.Inst t args)

  pub text_array : (e : TypeExpr) → text recs (expr.Array e) ≡ text recs e ++ codes "[]"
  unfolding text
  text_array e = ap (fold-TypeExpr (List ℕ) (text_layer recs)) (sym (expr.rolls-Array e)) ∙ fold-roll-TypeExpr (List ℕ) (text_layer recs) (TypeExpr-F.Array e)

  pub text_by_ref : (e : TypeExpr) → text recs (expr.ByRef e) ≡ text recs e ++ codes "&"
  unfolding text
  text_by_ref e = ap (fold-TypeExpr (List ℕ) (text_layer recs)) (sym (expr.rolls-ByRef e)) ∙ fold-roll-TypeExpr (List ℕ) (text_layer recs) (TypeExpr-F.ByRef e)

  pub text_var : (n : ℕ) → text recs (expr.Var n) ≡ codes "!" ++ decimal n
  unfolding text
  text_var n = ap (fold-TypeExpr (List ℕ) (text_layer recs)) (sym (expr.rolls-Var n)) ∙ fold-roll-TypeExpr (List ℕ) (text_layer recs) (TypeExpr-F.Var n)

  pub text_mvar : (n : ℕ) → text recs (expr.MVar n) ≡ codes "!!" ++ decimal n
  unfolding text
  text_mvar n = ap (fold-TypeExpr (List ℕ) (text_layer recs)) (sym (expr.rolls-MVar n)) ∙ fold-roll-TypeExpr (List ℕ) (text_layer recs) (TypeExpr-F.MVar n)

  pub text_mod : (required : Bool) (by : TypeId) (e : TypeExpr) → text recs (expr.Mod required by e) ≡ text recs e ++ modifier_text required ++ definition_text recs (Some by) ++ codes ")"
  unfolding text
  text_mod required by e = ap (fold-TypeExpr (List ℕ) (text_layer recs)) (sym (expr.rolls-Mod required by e)) ∙ fold-roll-TypeExpr (List ℕ) (text_layer recs) (TypeExpr-F.Mod required by e)

module _ (recs : List AsmRec) (out : List ℕ) where
  pub put_prim : (n : ℕ) → out ++ text recs (expr.Prim n) ≡ out ++ definition_text recs (prim_type recs n)
  put_prim n = rw (text_prim recs n) refl

  pub put_def : (t : TypeId) → out ++ text recs (expr.Def t) ≡ out ++ definition_text recs (Some t)
  put_def t = rw (text_def recs t) refl

  pub put_inst : (t : TypeId) (args : List TypeExpr) → out ++ text recs (expr.Inst t args) ≡ (((out ++ definition_text recs (Some t)) ++ codes "[") ++ joined (map (text recs) args)) ++ codes "]"
  put_inst t args = rw (text_inst recs t args) (simp append_assoc)

  pub put_array : (e : TypeExpr) → out ++ text recs (expr.Array e) ≡ (out ++ text recs e) ++ codes "[]"
  put_array e = rw (text_array recs e) (simp append_assoc)

  pub put_by_ref : (e : TypeExpr) → out ++ text recs (expr.ByRef e) ≡ (out ++ text recs e) ++ codes "&"
  put_by_ref e = rw (text_by_ref recs e) (simp append_assoc)

  pub put_var : (n : ℕ) → out ++ text recs (expr.Var n) ≡ out ++ (codes "!" ++ decimal n)
  put_var n = rw (text_var recs n) refl

  pub put_mvar : (n : ℕ) → out ++ text recs (expr.MVar n) ≡ out ++ (codes "!!" ++ decimal n)
  put_mvar n = rw (text_mvar recs n) refl

  pub put_mod : (required : Bool) (by : TypeId) (e : TypeExpr) → out ++ text recs (expr.Mod required by e) ≡ (out ++ text recs e) ++ (modifier_text required ++ definition_text recs (Some by) ++ codes ")")
  put_mod required by e = rw (text_mod recs required by e) (simp append_assoc)

-- texts after others, one level of a type at a time
pub ruleset writing = (put_prim, put_def, put_inst, put_array, put_by_ref, put_var, put_mvar, put_mod)
