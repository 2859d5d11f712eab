-- Whether a type can name a type, by its outermost construct.
use Rattle.std.proofs.Common.{◌≡◌, ℕ, Bool, false, List, sym, ap, ◌∙◌}
use Rattle.std.specs.Prelude.{◌==◌}
use Rattle.std.specs.List.{list_any}
use Rattle.il_base.specs.declared.ids.TypeId.{TypeId}
use Rattle.il_base.specs.declared.element.TheConstants.{STRING}
use Rattle.il_base.specs.declared.world_model.expr.TypeExpr.{TypeExpr, fold-TypeExpr, fold-roll-TypeExpr}
use Rattle.il_base.specs.declared.world_model.expr.TypeExpr.TheOpen.{TypeExpr-F}
use Rattle.il_base.specs.declared.world_model.expr.TypeExpr.TheVariants as expr
use Rattle.il_base.specs.declared.world_model.record.AsmRec.{AsmRec}
use Rattle.rules.specs.link_rules.Members.{type_home}
use Rattle.rules.specs.link_rules.Cycles.{listed}
use Rattle.rules.specs.mark_rules.Attributes.{is_system_type_row}
use Rattle.rules.specs.mark_rules.Annotations.{text_layer, may_name_type}

module _ (recs : List AsmRec) where
  pub name_prim : (n : ℕ) → may_name_type recs (expr.Prim n) ≡ (n == STRING)
  unfolding may_name_type
  name_prim n = ap (fold-TypeExpr Bool (text_layer recs)) (sym (expr.rolls-Prim n)) ∙ fold-roll-TypeExpr Bool (text_layer recs) (TypeExpr-F.Prim n)

  pub name_def : (t : TypeId) → may_name_type recs (expr.Def t) ≡ list_any (is_system_type_row recs) (listed (type_home recs t))
  unfolding may_name_type
  name_def t = ap (fold-TypeExpr Bool (text_layer recs)) (sym (expr.rolls-Def t)) ∙ fold-roll-TypeExpr Bool (text_layer recs) (TypeExpr-F.Def t)

  pub name_inst : (t : TypeId) (args : List TypeExpr) → may_name_type recs (expr.Inst t args) ≡ false
  unfolding may_name_type
  name_inst t args = ap (fold-TypeExpr Bool (text_layer recs)) (sym (expr.rolls-Inst t args)) ∙ fold-roll-TypeExpr Bool (text_layer recs) (TypeExpr-F.Inst t args)

  pub name_array : (e : TypeExpr) → may_name_type recs (expr.Array e) ≡ false
  unfolding may_name_type
  name_array e = ap (fold-TypeExpr Bool (text_layer recs)) (sym (expr.rolls-Array e)) ∙ fold-roll-TypeExpr Bool (text_layer recs) (TypeExpr-F.Array e)

  pub name_by_ref : (e : TypeExpr) → may_name_type recs (expr.ByRef e) ≡ false
  unfolding may_name_type
  name_by_ref e = ap (fold-TypeExpr Bool (text_layer recs)) (sym (expr.rolls-ByRef e)) ∙ fold-roll-TypeExpr Bool (text_layer recs) (TypeExpr-F.ByRef e)

  pub name_var : (n : ℕ) → may_name_type recs (expr.Var n) ≡ false
  unfolding may_name_type
  name_var n = ap (fold-TypeExpr Bool (text_layer recs)) (sym (expr.rolls-Var n)) ∙ fold-roll-TypeExpr Bool (text_layer recs) (TypeExpr-F.Var n)

  pub name_mvar : (n : ℕ) → may_name_type recs (expr.MVar n) ≡ false
  unfolding may_name_type
  name_mvar n = ap (fold-TypeExpr Bool (text_layer recs)) (sym (expr.rolls-MVar n)) ∙ fold-roll-TypeExpr Bool (text_layer recs) (TypeExpr-F.MVar n)

  pub name_mod : (required : Bool) (by : TypeId) (e : TypeExpr) → may_name_type recs (expr.Mod required by e) ≡ may_name_type recs e
  unfolding may_name_type
  name_mod required by e =
      ap (fold-TypeExpr Bool (text_layer recs)) (sym (expr.rolls-Mod required by e)) ∙ fold-roll-TypeExpr Bool (text_layer recs) (TypeExpr-F.Mod required by e)

-- one level of a type at a time
pub ruleset naming = (name_prim, name_def, name_inst, name_array, name_by_ref, name_var, name_mvar, name_mod)
