-- The own name and the namespace of a type by its outermost construct.
use Rattle.std.proofs.Common.{◌≡◌, ℕ, [], ◌++◌, codes, Bool, List, Some, sym, ap, ◌∙◌}
use Rattle.std.specs.Fmt.{decimal}
use Rattle.il_base.specs.declared.ids.TypeId.{TypeId}
use Rattle.il_base.specs.declared.world_model.expr.TypeExpr.{TypeExpr, fold-TypeExpr, fold-roll-TypeExpr}
use Rattle.il_base.specs.declared.world_model.expr.TypeExpr.TheOpen.{TypeExpr-F}
use Rattle.il_base.specs.declared.world_model.expr.TypeExpr.TheVariants as expr
use Rattle.il_base.specs.declared.world_model.record.AsmRec.{AsmRec}
use Rattle.il_base.specs.world_model.Worlds.{prim_type}
use Rattle.rules.specs.type_rules.Labels.{definition_label, label_layer, label, definition_space, space_layer, space}

module _ (recs : List AsmRec) where
  pub label_prim : (n : ℕ) → label recs (expr.Prim n) ≡ definition_label recs (prim_type recs n)
  unfolding label
  label_prim n = ap (fold-TypeExpr (List ℕ) (label_layer recs)) (sym (expr.rolls-Prim n)) ∙ fold-roll-TypeExpr (List ℕ) (label_layer recs) (TypeExpr-F.Prim n)

  pub label_def : (t : TypeId) → label recs (expr.Def t) ≡ definition_label recs (Some t)
  unfolding label
  label_def t = ap (fold-TypeExpr (List ℕ) (label_layer recs)) (sym (expr.rolls-Def t)) ∙ fold-roll-TypeExpr (List ℕ) (label_layer recs) (TypeExpr-F.Def t)

  pub label_inst : (t : TypeId) (args : List TypeExpr) → label recs (expr.Inst t args) ≡ definition_label recs (Some t)
  unfolding label
  label_inst t args = ap (fold-TypeExpr (List ℕ) (label_layer recs)) (sym (expr.rolls-Inst t args)) ∙ fold-roll-TypeExpr (List ℕ) (label_layer recs) (TypeExpr-F.Inst t args)

  pub label_array : (e : TypeExpr) → label recs (expr.Array e) ≡ label recs e ++ codes "[]"
  unfolding label
  label_array e = ap (fold-TypeExpr (List ℕ) (label_layer recs)) (sym (expr.rolls-Array e)) ∙ fold-roll-TypeExpr (List ℕ) (label_layer recs) (TypeExpr-F.Array e)

  pub label_by_ref : (e : TypeExpr) → label recs (expr.ByRef e) ≡ label recs e ++ codes "&"
  unfolding label
  label_by_ref e = ap (fold-TypeExpr (List ℕ) (label_layer recs)) (sym (expr.rolls-ByRef e)) ∙ fold-roll-TypeExpr (List ℕ) (label_layer recs) (TypeExpr-F.ByRef e)

  pub label_var : (n : ℕ) → label recs (expr.Var n) ≡ codes "!" ++ decimal n
  unfolding label
  label_var n = ap (fold-TypeExpr (List ℕ) (label_layer recs)) (sym (expr.rolls-Var n)) ∙ fold-roll-TypeExpr (List ℕ) (label_layer recs) (TypeExpr-F.Var n)

  pub label_mvar : (n : ℕ) → label recs (expr.MVar n) ≡ codes "!!" ++ decimal n
  unfolding label
  label_mvar n = ap (fold-TypeExpr (List ℕ) (label_layer recs)) (sym (expr.rolls-MVar n)) ∙ fold-roll-TypeExpr (List ℕ) (label_layer recs) (TypeExpr-F.MVar n)

  pub label_mod : (required : Bool) (by : TypeId) (e : TypeExpr) → label recs (expr.Mod required by e) ≡ label recs e
  unfolding label
  label_mod required by e = ap (fold-TypeExpr (List ℕ) (label_layer recs)) (sym (expr.rolls-Mod required by e)) ∙ fold-roll-TypeExpr (List ℕ) (label_layer recs) (TypeExpr-F.Mod required by e)

  pub space_prim : (n : ℕ) → space recs (expr.Prim n) ≡ definition_space recs (prim_type recs n)
  unfolding space
  space_prim n = ap (fold-TypeExpr (List ℕ) (space_layer recs)) (sym (expr.rolls-Prim n)) ∙ fold-roll-TypeExpr (List ℕ) (space_layer recs) (TypeExpr-F.Prim n)

  pub space_def : (t : TypeId) → space recs (expr.Def t) ≡ definition_space recs (Some t)
  unfolding space
  space_def t = ap (fold-TypeExpr (List ℕ) (space_layer recs)) (sym (expr.rolls-Def t)) ∙ fold-roll-TypeExpr (List ℕ) (space_layer recs) (TypeExpr-F.Def t)

  pub space_inst : (t : TypeId) (args : List TypeExpr) → space recs (expr.Inst t args) ≡ definition_space recs (Some t)
  unfolding space
  space_inst t args = ap (fold-TypeExpr (List ℕ) (space_layer recs)) (sym (expr.rolls-Inst t args)) ∙ fold-roll-TypeExpr (List ℕ) (space_layer recs) (TypeExpr-F.Inst t args)

  pub space_array : (e : TypeExpr) → space recs (expr.Array e) ≡ space recs e
  unfolding space
  space_array e = ap (fold-TypeExpr (List ℕ) (space_layer recs)) (sym (expr.rolls-Array e)) ∙ fold-roll-TypeExpr (List ℕ) (space_layer recs) (TypeExpr-F.Array e)

  pub space_by_ref : (e : TypeExpr) → space recs (expr.ByRef e) ≡ space recs e
  unfolding space
  space_by_ref e = ap (fold-TypeExpr (List ℕ) (space_layer recs)) (sym (expr.rolls-ByRef e)) ∙ fold-roll-TypeExpr (List ℕ) (space_layer recs) (TypeExpr-F.ByRef e)

  pub space_var : (n : ℕ) → space recs (expr.Var n) ≡ []
  unfolding space
  space_var n = ap (fold-TypeExpr (List ℕ) (space_layer recs)) (sym (expr.rolls-Var n)) ∙ fold-roll-TypeExpr (List ℕ) (space_layer recs) (TypeExpr-F.Var n)

  pub space_mvar : (n : ℕ) → space recs (expr.MVar n) ≡ []
  unfolding space
  space_mvar n = ap (fold-TypeExpr (List ℕ) (space_layer recs)) (sym (expr.rolls-MVar n)) ∙ fold-roll-TypeExpr (List ℕ) (space_layer recs) (TypeExpr-F.MVar n)

  pub space_mod : (required : Bool) (by : TypeId) (e : TypeExpr) → space recs (expr.Mod required by e) ≡ space recs e
  unfolding space
  space_mod required by e = ap (fold-TypeExpr (List ℕ) (space_layer recs)) (sym (expr.rolls-Mod required by e)) ∙ fold-roll-TypeExpr (List ℕ) (space_layer recs) (TypeExpr-F.Mod required by e)

-- one level of a type at a time
pub ruleset labelling = (label_prim, label_def, label_inst, label_array, label_by_ref, label_var, label_mvar, label_mod)

pub ruleset spacing = (space_prim, space_def, space_inst, space_array, space_by_ref, space_var, space_mvar, space_mod)
