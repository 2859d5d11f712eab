-- Types under new numbers, by their outermost construct; led back they are as they were.
use Rattle.std.proofs.Common.{◌≡◌, ℕ, Bool, List, [], ◌∷◌, map, refl, sym, ap, subst, ◌∙◌}
use Rattle.il_base.specs.declared.ids.TypeId.{TypeId}
use Rattle.il_base.specs.declared.world_model.expr.TypeExpr.{TypeExpr, fold-roll-TypeExpr, ind-TypeExpr, out-TypeExpr, roll-TypeExpr, roll-out-TypeExpr, out-roll-TypeExpr}
use Rattle.il_base.specs.declared.world_model.expr.TypeExpr.TheFolds.{map-TypeExpr}
use Rattle.il_base.specs.declared.world_model.expr.TypeExpr.TheOpen.{TypeExpr-F}
use Rattle.il_base.specs.declared.world_model.expr.TypeExpr.TheVariants as expr
use Rattle.rules.specs.change_rules.Change.{Rho, Undone}
use Rattle.rules.specs.change_rules.Moves.{move_type, move_layer, move_expr, move_exprs}

-- ---- by layers

-- the outermost construct of a moved type
abbrev pub moved_in : Rho → TypeExpr-F TypeExpr → TypeExpr-F TypeExpr
moved_in r (TypeExpr-F.Prim n) = TypeExpr-F.Prim n
moved_in r (TypeExpr-F.Def t) = TypeExpr-F.Def (move_type r t)
moved_in r (TypeExpr-F.Inst t args) = TypeExpr-F.Inst (move_type r t) (move_exprs r args)
moved_in r (TypeExpr-F.Array x) = TypeExpr-F.Array (move_expr r x)
moved_in r (TypeExpr-F.ByRef x) = TypeExpr-F.ByRef (move_expr r x)
moved_in r (TypeExpr-F.Var n) = TypeExpr-F.Var n
moved_in r (TypeExpr-F.MVar n) = TypeExpr-F.MVar n
moved_in r (TypeExpr-F.Mod required by x) = TypeExpr-F.Mod required (move_type r by) (move_expr r x)

module _ (r : Rho) where
  pub move_rolled : (x : TypeExpr-F TypeExpr) → move_expr r (roll-TypeExpr x) ≡ roll-TypeExpr (moved_in r x)
  unfolding move_expr
  move_rolled (TypeExpr-F.Prim n) = fold-roll-TypeExpr TypeExpr (move_layer r) (TypeExpr-F.Prim n) ∙ sym (expr.rolls-Prim n)
  move_rolled (TypeExpr-F.Def t) = fold-roll-TypeExpr TypeExpr (move_layer r) (TypeExpr-F.Def t) ∙ sym (expr.rolls-Def (move_type r t))
  move_rolled (TypeExpr-F.Inst t args) = fold-roll-TypeExpr TypeExpr (move_layer r) (TypeExpr-F.Inst t args) ∙ sym (expr.rolls-Inst (move_type r t) (move_exprs r args))
  move_rolled (TypeExpr-F.Array x) = fold-roll-TypeExpr TypeExpr (move_layer r) (TypeExpr-F.Array x) ∙ sym (expr.rolls-Array (move_expr r x))
  move_rolled (TypeExpr-F.ByRef x) = fold-roll-TypeExpr TypeExpr (move_layer r) (TypeExpr-F.ByRef x) ∙ sym (expr.rolls-ByRef (move_expr r x))
  move_rolled (TypeExpr-F.Var n) = fold-roll-TypeExpr TypeExpr (move_layer r) (TypeExpr-F.Var n) ∙ sym (expr.rolls-Var n)
  move_rolled (TypeExpr-F.MVar n) = fold-roll-TypeExpr TypeExpr (move_layer r) (TypeExpr-F.MVar n) ∙ sym (expr.rolls-MVar n)
  move_rolled (TypeExpr-F.Mod required by x) = fold-roll-TypeExpr TypeExpr (move_layer r) (TypeExpr-F.Mod required by x) ∙ sym (expr.rolls-Mod required (move_type r by) (move_expr r x))

  pub out_moved : (e : TypeExpr) → out-TypeExpr (move_expr r e) ≡ moved_in r (out-TypeExpr e)
  out_moved e =
      ap (λ (x : TypeExpr). out-TypeExpr (move_expr r x)) (sym (roll-out-TypeExpr e)) ∙ ap out-TypeExpr (move_rolled (out-TypeExpr e)) ∙ out-roll-TypeExpr (moved_in r (out-TypeExpr e))

  pub move_prim : (n : ℕ) → move_expr r (expr.Prim n) ≡ expr.Prim n
  move_prim n = ap (move_expr r) (sym (expr.rolls-Prim n)) ∙ move_rolled (TypeExpr-F.Prim n) ∙ expr.rolls-Prim n

  pub move_def : (t : TypeId) → move_expr r (expr.Def t) ≡ expr.Def (move_type r t)
  move_def t = ap (move_expr r) (sym (expr.rolls-Def t)) ∙ move_rolled (TypeExpr-F.Def t) ∙ expr.rolls-Def (move_type r t)

  pub move_inst : (t : TypeId) (args : List TypeExpr) → move_expr r (expr.Inst t args) ≡ expr.Inst (move_type r t) (move_exprs r args)
  move_inst t args = ap (move_expr r) (sym (expr.rolls-Inst t args)) ∙ move_rolled (TypeExpr-F.Inst t args) ∙ expr.rolls-Inst (move_type r t) (move_exprs r args)

  pub move_array : (e : TypeExpr) → move_expr r (expr.Array e) ≡ expr.Array (move_expr r e)
  move_array e = ap (move_expr r) (sym (expr.rolls-Array e)) ∙ move_rolled (TypeExpr-F.Array e) ∙ expr.rolls-Array (move_expr r e)

  pub move_by_ref : (e : TypeExpr) → move_expr r (expr.ByRef e) ≡ expr.ByRef (move_expr r e)
  move_by_ref e = ap (move_expr r) (sym (expr.rolls-ByRef e)) ∙ move_rolled (TypeExpr-F.ByRef e) ∙ expr.rolls-ByRef (move_expr r e)

  pub move_var : (n : ℕ) → move_expr r (expr.Var n) ≡ expr.Var n
  move_var n = ap (move_expr r) (sym (expr.rolls-Var n)) ∙ move_rolled (TypeExpr-F.Var n) ∙ expr.rolls-Var n

  pub move_mvar : (n : ℕ) → move_expr r (expr.MVar n) ≡ expr.MVar n
  move_mvar n = ap (move_expr r) (sym (expr.rolls-MVar n)) ∙ move_rolled (TypeExpr-F.MVar n) ∙ expr.rolls-MVar n

  pub move_mod : (required : Bool) (by : TypeId) (e : TypeExpr) → move_expr r (expr.Mod required by e) ≡ expr.Mod required (move_type r by) (move_expr r e)
  move_mod required by e = ap (move_expr r) (sym (expr.rolls-Mod required by e)) ∙ move_rolled (TypeExpr-F.Mod required by e) ∙ expr.rolls-Mod required (move_type r by) (move_expr r e)

-- a move, one level of a type at a time
pub ruleset moving = (move_prim, move_def, move_inst, move_array, move_by_ref, move_var, move_mvar, move_mod)

-- ---- led back

-- a part with what is known of it
abbrev pub With : (TypeExpr → Type 0) → Type 0
With P = (e : TypeExpr) × P e

abbrev pub plain_parts : (P : TypeExpr → Type 0) → TypeExpr-F (With P) → TypeExpr-F TypeExpr
plain_parts P = map-TypeExpr (With P) TypeExpr (λ e. e.0)

module _ (back rho : Rho) (u : Undone back rho) where
  abbrev IsBack : TypeExpr → Type 0
  IsBack e = move_expr back (move_expr rho e) ≡ e

  back_args : (xs : List (With IsBack)) → move_exprs back (move_exprs rho (map (λ e. e.0) xs)) ≡ map (λ e. e.0) xs
  back_args [] = refl
  back_args (x ∷ xs) = λ i. x.1 i ∷ back_args xs i

  pub type_back : (t : TypeId) → move_type back (move_type rho t) ≡ t
  type_back t = ap (λ (n : ℕ). record { 0 = n }) (u.typ t.0)

  back_layer : (y : TypeExpr-F (With IsBack)) → moved_in back (moved_in rho (plain_parts IsBack y)) ≡ plain_parts IsBack y
  back_layer (TypeExpr-F.Prim n) = refl
  back_layer (TypeExpr-F.Def t) = ap TypeExpr-F.Def (type_back t)
  back_layer (TypeExpr-F.Inst t xs) = λ i. TypeExpr-F.Inst (type_back t i) (back_args xs i)
  back_layer (TypeExpr-F.Array x) = ap TypeExpr-F.Array x.1
  back_layer (TypeExpr-F.ByRef x) = ap TypeExpr-F.ByRef x.1
  back_layer (TypeExpr-F.Var n) = refl
  back_layer (TypeExpr-F.MVar n) = refl
  back_layer (TypeExpr-F.Mod required by x) = λ i. TypeExpr-F.Mod required (type_back by i) (x.1 i)

  back_rolled : (y : TypeExpr-F (With IsBack)) → IsBack (roll-TypeExpr (plain_parts IsBack y))
  back_rolled y =
      let x : TypeExpr-F TypeExpr = plain_parts IsBack y in
      ap (move_expr back) (move_rolled rho x) ∙ move_rolled back (moved_in rho x) ∙ ap roll-TypeExpr (back_layer y)

  pub expr_back : (e : TypeExpr) → move_expr back (move_expr rho e) ≡ e
  expr_back = ind-TypeExpr IsBack (λ x y is. subst (λ z. IsBack (roll-TypeExpr z)) is (back_rolled y))

  pub exprs_back : (es : List TypeExpr) → move_exprs back (move_exprs rho es) ≡ es
  exprs_back [] = refl
  exprs_back (e ∷ es) = λ i. expr_back e i ∷ exprs_back es i
