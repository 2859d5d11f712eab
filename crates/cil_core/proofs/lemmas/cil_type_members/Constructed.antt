-- Whether a type has generic arguments, by its outermost construct.
use Rattle.std.proofs.Common.{◌≡◌, ℕ, Bool, true, false, List, sym, ap, ◌∙◌}
use Rattle.il_base.specs.declared.ids.TypeId.{TypeId}
use Rattle.il_base.specs.declared.world_model.expr.TypeExpr.{TypeExpr, fold-roll-TypeExpr}
use Rattle.il_base.specs.declared.world_model.expr.TypeExpr.TheOpen.{TypeExpr-F}
use Rattle.il_base.specs.declared.world_model.expr.TypeExpr.TheVariants as expr
use Rattle.rules.specs.step_rules.CoreTypes.{constructed_layer, is_constructed}

pub constructed_prim : (n : ℕ) → is_constructed (expr.Prim n) ≡ false
unfolding is_constructed
constructed_prim n = ap is_constructed (sym (expr.rolls-Prim n)) ∙ fold-roll-TypeExpr Bool constructed_layer (TypeExpr-F.Prim n)

pub constructed_def : (t : TypeId) → is_constructed (expr.Def t) ≡ false
unfolding is_constructed
constructed_def t = ap is_constructed (sym (expr.rolls-Def t)) ∙ fold-roll-TypeExpr Bool constructed_layer (TypeExpr-F.Def t)

pub constructed_inst : (t : TypeId) (args : List TypeExpr) → is_constructed (expr.Inst t args) ≡ true
unfolding is_constructed
constructed_inst t args = ap is_constructed (sym (expr.rolls-Inst t args)) ∙ fold-roll-TypeExpr Bool constructed_layer (TypeExpr-F.Inst t args)

pub constructed_array : (e : TypeExpr) → is_constructed (expr.Array e) ≡ is_constructed e
unfolding is_constructed
constructed_array e = ap is_constructed (sym (expr.rolls-Array e)) ∙ fold-roll-TypeExpr Bool constructed_layer (TypeExpr-F.Array e)

pub constructed_by_ref : (e : TypeExpr) → is_constructed (expr.ByRef e) ≡ is_constructed e
unfolding is_constructed
constructed_by_ref e = ap is_constructed (sym (expr.rolls-ByRef e)) ∙ fold-roll-TypeExpr Bool constructed_layer (TypeExpr-F.ByRef e)

pub constructed_var : (n : ℕ) → is_constructed (expr.Var n) ≡ false
unfolding is_constructed
constructed_var n = ap is_constructed (sym (expr.rolls-Var n)) ∙ fold-roll-TypeExpr Bool constructed_layer (TypeExpr-F.Var n)

pub constructed_mvar : (n : ℕ) → is_constructed (expr.MVar n) ≡ false
unfolding is_constructed
constructed_mvar n = ap is_constructed (sym (expr.rolls-MVar n)) ∙ fold-roll-TypeExpr Bool constructed_layer (TypeExpr-F.MVar n)

pub constructed_mod : (required : Bool) (by : TypeId) (e : TypeExpr) → is_constructed (expr.Mod required by e) ≡ is_constructed e
unfolding is_constructed
constructed_mod required by e = ap is_constructed (sym (expr.rolls-Mod required by e)) ∙ fold-roll-TypeExpr Bool constructed_layer (TypeExpr-F.Mod required by e)

-- one level of a type at a time
pub ruleset constructing =
    (constructed_prim, constructed_def, constructed_inst, constructed_array, constructed_by_ref, constructed_var, constructed_mvar, constructed_mod)
