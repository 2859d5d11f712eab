-- Whether a type is void, by its outermost construct.
use Rattle.std.proofs.Common.{◌≡◌, ℕ, Bool, false, List, sym, ap, ◌∙◌}
use Rattle.std.specs.Prelude.{◌==◌}
use Rattle.il_base.specs.declared.ids.TypeId.{TypeId}
use Rattle.il_base.specs.declared.element.TheConstants.{VOID}
use Rattle.il_base.specs.declared.world_model.expr.TypeExpr.{TypeExpr, fold-TypeExpr, fold-roll-TypeExpr}
use Rattle.il_base.specs.declared.world_model.expr.TypeExpr.TheOpen.{TypeExpr-F}
use Rattle.il_base.specs.declared.world_model.expr.TypeExpr.TheVariants as expr
use Rattle.rules.specs.type_rules.Initializers.{void_layer, is_void}

pub void_prim : (n : ℕ) → is_void (expr.Prim n) ≡ (n == VOID)
unfolding is_void
void_prim n = ap (fold-TypeExpr Bool void_layer) (sym (expr.rolls-Prim n)) ∙ fold-roll-TypeExpr Bool void_layer (TypeExpr-F.Prim n)

pub void_def : (t : TypeId) → is_void (expr.Def t) ≡ false
unfolding is_void
void_def t = ap (fold-TypeExpr Bool void_layer) (sym (expr.rolls-Def t)) ∙ fold-roll-TypeExpr Bool void_layer (TypeExpr-F.Def t)

pub void_inst : (t : TypeId) (args : List TypeExpr) → is_void (expr.Inst t args) ≡ false
unfolding is_void
void_inst t args = ap (fold-TypeExpr Bool void_layer) (sym (expr.rolls-Inst t args)) ∙ fold-roll-TypeExpr Bool void_layer (TypeExpr-F.Inst t args)

pub void_array : (e : TypeExpr) → is_void (expr.Array e) ≡ false
unfolding is_void
void_array e = ap (fold-TypeExpr Bool void_layer) (sym (expr.rolls-Array e)) ∙ fold-roll-TypeExpr Bool void_layer (TypeExpr-F.Array e)

pub void_by_ref : (e : TypeExpr) → is_void (expr.ByRef e) ≡ false
unfolding is_void
void_by_ref e = ap (fold-TypeExpr Bool void_layer) (sym (expr.rolls-ByRef e)) ∙ fold-roll-TypeExpr Bool void_layer (TypeExpr-F.ByRef e)

pub void_var : (n : ℕ) → is_void (expr.Var n) ≡ false
unfolding is_void
void_var n = ap (fold-TypeExpr Bool void_layer) (sym (expr.rolls-Var n)) ∙ fold-roll-TypeExpr Bool void_layer (TypeExpr-F.Var n)

pub void_mvar : (n : ℕ) → is_void (expr.MVar n) ≡ false
unfolding is_void
void_mvar n = ap (fold-TypeExpr Bool void_layer) (sym (expr.rolls-MVar n)) ∙ fold-roll-TypeExpr Bool void_layer (TypeExpr-F.MVar n)

pub void_mod : (required : Bool) (by : TypeId) (e : TypeExpr) → is_void (expr.Mod required by e) ≡ is_void e
unfolding is_void
void_mod required by e = ap (fold-TypeExpr Bool void_layer) (sym (expr.rolls-Mod required by e)) ∙ fold-roll-TypeExpr Bool void_layer (TypeExpr-F.Mod required by e)

-- one level of a type at a time
pub ruleset voids = (void_prim, void_def, void_inst, void_array, void_by_ref, void_var, void_mvar, void_mod)
