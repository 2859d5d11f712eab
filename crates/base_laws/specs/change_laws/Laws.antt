-- The laws on types, uses and places.
use Rattle.std.specs.Prelude.{◌≡◌, ℕ, List, IsTrue}
use Rattle.std.specs.List.{list_all}
use Rattle.il_base.specs.declared.world_model.expr.TypeExpr.{TypeExpr}
use Rattle.il_base.specs.declared.world_model.expr.MethodUse.{MethodUse}
use Rattle.il_base.specs.declared.world_model.expr.FieldUse.{FieldUse}
use Rattle.il_base.specs.world_model.Exprs.{subst, same_expr}
use Rattle.il_base.specs.declared.cil_values.path.Path.{Path}
use Rattle.il_base.specs.declared.cil_values.state.Global.{Global}
use Rattle.il_base.specs.declared.cil_values.state.Started.{Started}
use Rattle.rules.specs.step_rules.Comparisons.{same_place}
use Rattle.rules.specs.step_rules.Places.{is_global}
use Rattle.rules.specs.change_rules.Change.{Rho, Undone, Keep}
use Rattle.rules.specs.change_rules.Moves.{move_expr, move_exprs, move_use, move_field_use, move_path}
use Rattle.rules.specs.change_rules.States.{move_global, move_started}
use Rattle.rules.specs.change_rules.Keeps.{keeps_expr, keeps_defined, shows_expr}

-- ---- led back

abbrev pub ExprsMoveBack : Type 0
ExprsMoveBack = (back rho : Rho) → Undone back rho → (e : TypeExpr) → move_expr back (move_expr rho e) ≡ e

abbrev pub UsesMoveBack : Type 0
UsesMoveBack = (back rho : Rho) → Undone back rho → (u : MethodUse) → move_use back (move_use rho u) ≡ u

abbrev pub FieldUsesMoveBack : Type 0
FieldUsesMoveBack = (back rho : Rho) → Undone back rho → (u : FieldUse) → move_field_use back (move_field_use rho u) ≡ u

abbrev pub PathsMoveBack : Type 0
PathsMoveBack = (back rho : Rho) → Undone back rho → (p : Path) → move_path back (move_path rho p) ≡ p

-- ---- arguments put in (II.9.8)

abbrev pub SubstMoves : Type 0
SubstMoves = (rho : Rho) (targs margs : List TypeExpr) (e : TypeExpr)
    → move_expr rho (subst targs margs e) ≡ subst (move_exprs rho targs) (move_exprs rho margs) (move_expr rho e)

abbrev pub SubstKeeps : Type 0
SubstKeeps = (k : Keep) (targs margs : List TypeExpr) → IsTrue (list_all (shows_expr k) targs) → IsTrue (list_all (shows_expr k) margs)
    → (e : TypeExpr) → IsTrue (keeps_expr k e) → IsTrue (keeps_expr k (subst targs margs e))

-- what is kept names only definitions that are kept
abbrev pub KeptDefined : Type 0
KeptDefined = (k : Keep) (e : TypeExpr) → IsTrue (keeps_expr k e) → IsTrue (keeps_defined k e)

abbrev pub SubstDefined : Type 0
SubstDefined = (k : Keep) (targs margs : List TypeExpr) → IsTrue (list_all (shows_expr k) targs) → IsTrue (list_all (shows_expr k) margs)
    → (e : TypeExpr) → IsTrue (keeps_defined k e) → IsTrue (keeps_defined k (subst targs margs e))

-- ---- the same

abbrev pub SameExprs : Type 0
SameExprs = (back rho : Rho) → Undone back rho → (a b : TypeExpr) → same_expr (move_expr rho a) (move_expr rho b) ≡ same_expr a b

abbrev pub SamePlaces : Type 0
SamePlaces = (back rho : Rho) → Undone back rho → (p o : Path) → same_place (move_path rho p) (move_path rho o) ≡ same_place p o

-- the key of a static field
abbrev pub SameGlobals : Type 0
SameGlobals = (back rho : Rho) → Undone back rho → (f : ℕ) (owner : TypeExpr) (g : Global)
    → is_global (rho.field f) (move_expr rho owner) (move_global rho g) ≡ is_global f owner g

-- the key of an initializer
abbrev pub SameTypes : Type 0
SameTypes = (back rho : Rho) → Undone back rho → (e : TypeExpr) (s : Started) → same_expr (move_started rho s).typ (move_expr rho e) ≡ same_expr s.typ e
