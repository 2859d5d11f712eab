-- The text of a parameter's type by its outermost construct.
use Rattle.std.proofs.Common.{◌≡◌, ℕ, ◌++◌, codes, Bool, List, Option, Some, None, sym, ap, ◌∙◌}
use Rattle.std.specs.Option.{option_map}
use Rattle.il_base.specs.declared.ids.TypeId.{TypeId}
use Rattle.il_base.specs.declared.world_model.expr.TypeExpr.{TypeExpr, fold-TypeExpr, fold-roll-TypeExpr}
use Rattle.il_base.specs.declared.world_model.expr.TypeExpr.TheOpen.{TypeExpr-F}
use Rattle.il_base.specs.declared.world_model.expr.TypeExpr.TheVariants as expr
use Rattle.il_base.specs.declared.world_model.record.AsmRec.{AsmRec}
use Rattle.rules.specs.type_rules.Texts.{text}
use Rattle.type_names.proofs.TextLayers.{text_prim, text_def}
use Rattle.rules.specs.mark_rules.Dependencies.{dotted, doc_layer, doc_text}

module _ (recs : List AsmRec) where
  pub doc_prim : (n : ℕ) → doc_text recs (expr.Prim n) ≡ Some (dotted (text recs (expr.Prim n)))
  unfolding doc_text
  doc_prim n = ap (fold-TypeExpr (Option (List ℕ)) (doc_layer recs)) (sym (expr.rolls-Prim n)) ∙ fold-roll-TypeExpr (Option (List ℕ)) (doc_layer recs) (TypeExpr-F.Prim n) ∙ ap (λ (t : List ℕ). Some (dotted t)) (sym (text_prim recs n))

  pub doc_def : (t : TypeId) → doc_text recs (expr.Def t) ≡ Some (dotted (text recs (expr.Def t)))
  unfolding doc_text
  doc_def t = ap (fold-TypeExpr (Option (List ℕ)) (doc_layer recs)) (sym (expr.rolls-Def t)) ∙ fold-roll-TypeExpr (Option (List ℕ)) (doc_layer recs) (TypeExpr-F.Def t) ∙ ap (λ (t : List ℕ). Some (dotted t)) (sym (text_def recs t))

  pub doc_inst : (t : TypeId) (args : List TypeExpr) → doc_text recs (expr.Inst t args) ≡ None
  unfolding doc_text
  doc_inst t args = ap (fold-TypeExpr (Option (List ℕ)) (doc_layer recs)) (sym (expr.rolls-Inst t args)) ∙ fold-roll-TypeExpr (Option (List ℕ)) (doc_layer recs) (TypeExpr-F.Inst t args)

  pub doc_array : (e : TypeExpr) → doc_text recs (expr.Array e) ≡ option_map (λ t. t ++ codes "[]") (doc_text recs e)
  unfolding doc_text
  doc_array e = ap (fold-TypeExpr (Option (List ℕ)) (doc_layer recs)) (sym (expr.rolls-Array e)) ∙ fold-roll-TypeExpr (Option (List ℕ)) (doc_layer recs) (TypeExpr-F.Array e)

  pub doc_by_ref : (e : TypeExpr) → doc_text recs (expr.ByRef e) ≡ option_map (λ t. t ++ codes "@") (doc_text recs e)
  unfolding doc_text
  doc_by_ref e = ap (fold-TypeExpr (Option (List ℕ)) (doc_layer recs)) (sym (expr.rolls-ByRef e)) ∙ fold-roll-TypeExpr (Option (List ℕ)) (doc_layer recs) (TypeExpr-F.ByRef e)

  pub doc_var : (n : ℕ) → doc_text recs (expr.Var n) ≡ None
  unfolding doc_text
  doc_var n = ap (fold-TypeExpr (Option (List ℕ)) (doc_layer recs)) (sym (expr.rolls-Var n)) ∙ fold-roll-TypeExpr (Option (List ℕ)) (doc_layer recs) (TypeExpr-F.Var n)

  pub doc_mvar : (n : ℕ) → doc_text recs (expr.MVar n) ≡ None
  unfolding doc_text
  doc_mvar n = ap (fold-TypeExpr (Option (List ℕ)) (doc_layer recs)) (sym (expr.rolls-MVar n)) ∙ fold-roll-TypeExpr (Option (List ℕ)) (doc_layer recs) (TypeExpr-F.MVar n)

  pub doc_mod : (required : Bool) (by : TypeId) (e : TypeExpr) → doc_text recs (expr.Mod required by e) ≡ doc_text recs e
  unfolding doc_text
  doc_mod required by e = ap (fold-TypeExpr (Option (List ℕ)) (doc_layer recs)) (sym (expr.rolls-Mod required by e)) ∙ fold-roll-TypeExpr (Option (List ℕ)) (doc_layer recs) (TypeExpr-F.Mod required by e)

-- one level of a type at a time
pub ruleset documenting = (doc_prim, doc_def, doc_inst, doc_array, doc_by_ref, doc_var, doc_mvar, doc_mod)
