-- Type expressions (I.8.9): generic arguments put in, levels, equality.
use Rattle.std.specs.Prelude.{ℕ, suc, max, List, [], ◌∷◌, Bool, true, false, slice_get, unwrap_or, nat_eq, ◌&&◌}
use Rattle.std.specs.Cmp.Lexicographic.{pointwise}
use Rattle.il_base.specs.declared.world_model.expr.TypeExpr.{TypeExpr, fold-TypeExpr, out-TypeExpr}
use Rattle.il_base.specs.declared.world_model.expr.TypeExpr.TheOpen.{TypeExpr-F}
use Rattle.il_base.specs.declared.world_model.expr.TypeExpr as expr

-- ---- substitution (II.9.8)

-- the argument with a number; a number beyond the list stays as it is
abbrev pub arg_or : List TypeExpr → ℕ → TypeExpr → TypeExpr
arg_or args n other = unwrap_or (slice_get args n) other

-- one level of a type, with each type that it holds replaced by its substituted form
abbrev pub subst_layer : List TypeExpr → List TypeExpr → TypeExpr-F TypeExpr → TypeExpr
subst_layer targs margs (TypeExpr-F.Prim n) = expr.Prim n
subst_layer targs margs (TypeExpr-F.Def t) = expr.Def t
subst_layer targs margs (TypeExpr-F.Inst t args) = expr.Inst t args
subst_layer targs margs (TypeExpr-F.Array x) = expr.Array x
subst_layer targs margs (TypeExpr-F.ByRef x) = expr.ByRef x
subst_layer targs margs (TypeExpr-F.Var n) = arg_or targs n (expr.Var n)
subst_layer targs margs (TypeExpr-F.MVar n) = arg_or margs n (expr.MVar n)
subst_layer targs margs (TypeExpr-F.Mod required by x) = expr.Mod required by x

-- the arguments of the type and of the method put in place of generic parameters
unfoldable pub subst : List TypeExpr → List TypeExpr → TypeExpr → TypeExpr
subst targs margs = fold-TypeExpr TypeExpr (subst_layer targs margs)

-- ---- levels

abbrev pub deepest : List ℕ → ℕ
deepest [] = 0
deepest (n ∷ ns) = max n (deepest ns)

abbrev pub levels_layer : TypeExpr-F ℕ → ℕ
levels_layer (TypeExpr-F.Prim n) = 1
levels_layer (TypeExpr-F.Def t) = 1
levels_layer (TypeExpr-F.Inst t args) = suc (deepest args)
levels_layer (TypeExpr-F.Array x) = suc x
levels_layer (TypeExpr-F.ByRef x) = suc x
levels_layer (TypeExpr-F.Var n) = 1
levels_layer (TypeExpr-F.MVar n) = 1
levels_layer (TypeExpr-F.Mod required by x) = suc x

-- A primitive, a definition and a parameter have one level; any other type has one more than the deepest of its parts.
unfoldable pub levels : TypeExpr → ℕ
levels = fold-TypeExpr ℕ levels_layer

-- ---- equality

abbrev pub same_bool : Bool → Bool → Bool
same_bool true b = b
same_bool false true = false
same_bool false false = true

-- the tests that the parts of one type make, over the parts of another
abbrev pub all_same : List (TypeExpr → Bool) → List TypeExpr → Bool
all_same [] [] = true
all_same [] (x ∷ xs) = false
all_same (f ∷ fs) [] = false
all_same (f ∷ fs) (x ∷ xs) = f x && all_same fs xs

abbrev pub same_in : TypeExpr-F (TypeExpr → Bool) → TypeExpr-F TypeExpr → Bool
same_in (TypeExpr-F.Prim n) (TypeExpr-F.Prim m) = nat_eq n m
same_in (TypeExpr-F.Def t) (TypeExpr-F.Def u) = nat_eq t.0 u.0
same_in (TypeExpr-F.Inst t args) (TypeExpr-F.Inst u others) = nat_eq t.0 u.0 && all_same args others
same_in (TypeExpr-F.Array x) (TypeExpr-F.Array y) = x y
same_in (TypeExpr-F.ByRef x) (TypeExpr-F.ByRef y) = x y
same_in (TypeExpr-F.Var n) (TypeExpr-F.Var m) = nat_eq n m
same_in (TypeExpr-F.MVar n) (TypeExpr-F.MVar m) = nat_eq n m
same_in (TypeExpr-F.Mod required by x) (TypeExpr-F.Mod asked other y) = same_bool required asked && nat_eq by.0 other.0 && x y
same_in _ _ = false

abbrev pub same_layer : TypeExpr-F (TypeExpr → Bool) → TypeExpr → Bool
same_layer parts other = same_in parts (out-TypeExpr other)

-- whether two type expressions are one
unfoldable pub same_expr : TypeExpr → TypeExpr → Bool
same_expr = fold-TypeExpr (TypeExpr → Bool) same_layer

unfoldable pub same_exprs : List TypeExpr → List TypeExpr → Bool
same_exprs = pointwise same_expr
