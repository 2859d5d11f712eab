-- The definitions in the generic arguments of a type, by its outermost construct.
use Rattle.std.proofs.Common.{◌≡◌, ℕ, ◌++◌, Bool, List, [], ◌∷◌, map, refl, sym, subst, ap, ◌∙◌}
use Rattle.std.specs.List.{flat_map}
use Rattle.std.proofs.lemmas.List.{map-append, append-nil}
use Rattle.il_base.specs.declared.ids.TypeId.{TypeId}
use Rattle.il_base.specs.declared.world_model.expr.TypeExpr.{TypeExpr, fold-TypeExpr, fold-roll-TypeExpr, ind-TypeExpr, roll-TypeExpr}
use Rattle.il_base.specs.declared.world_model.expr.TypeExpr.TheFolds.{map-TypeExpr}
use Rattle.il_base.specs.declared.world_model.expr.TypeExpr.TheOpen.{TypeExpr-F}
use Rattle.il_base.specs.declared.world_model.expr.TypeExpr.TheVariants as expr
use Rattle.rules.specs.mark_rules.Facts.{Fact}
use Rattle.rules.specs.mark_rules.Facts.Fact.{shown}
use Rattle.rules.specs.mark_rules.Naming.{types_layer, types_in}
use Rattle.rules.specs.mark_rules.Shown.{Within, within_layer, within, arguments_in}

-- ---- all definitions within a type are those that it names

abbrev IsSame : TypeExpr → Type 0
IsSame e = (within e).all ≡ types_in e

abbrev Inner : Type 0
Inner = (e : TypeExpr) × IsSame e

abbrev whole : TypeExpr-F Inner → TypeExpr-F TypeExpr
whole y = map-TypeExpr Inner TypeExpr (λ e. e.0) y

args_same : (xs : List Inner) → flat_map (λ (w : Within). w.all) (map within (map (λ e. e.0) xs)) ≡ flat_map (λ ts. ts) (map types_in (map (λ e. e.0) xs))
args_same [] = refl
args_same (x ∷ xs) = λ i. x.1 i ++ args_same xs i

layer_same : (y : TypeExpr-F Inner) → (within_layer (map-TypeExpr TypeExpr Within within (whole y))).all ≡ types_layer (map-TypeExpr TypeExpr (List TypeId) types_in (whole y))
layer_same (TypeExpr-F.Prim n) = refl
layer_same (TypeExpr-F.Def t) = refl
layer_same (TypeExpr-F.Inst t xs) = ap (λ (ts : List TypeId). t ∷ ts) (args_same xs)
layer_same (TypeExpr-F.Array x) = x.1
layer_same (TypeExpr-F.ByRef x) = x.1
layer_same (TypeExpr-F.Var n) = refl
layer_same (TypeExpr-F.MVar n) = refl
layer_same (TypeExpr-F.Mod required by x) = ap (λ (ts : List TypeId). by ∷ ts) x.1

rolled_same : (y : TypeExpr-F Inner) → IsSame (roll-TypeExpr (whole y))
unfolding within types_in
rolled_same y =
    ap (λ (w : Within). w.all) (fold-roll-TypeExpr Within within_layer (whole y)) ∙ layer_same y ∙ sym (fold-roll-TypeExpr (List TypeId) types_layer (whole y))

all_same : (e : TypeExpr) → IsSame e
all_same = ind-TypeExpr IsSame (λ x y is. subst (λ z. IsSame (roll-TypeExpr z)) is (rolled_same y))

all_of : (args : List TypeExpr) → flat_map (λ (w : Within). w.all) (map within args) ≡ flat_map types_in args
all_of [] = refl
all_of (e ∷ es) = λ i. all_same e i ++ all_of es i

-- ---- by constructs

within_is : (l : TypeExpr-F TypeExpr) → arguments_in (roll-TypeExpr l) ≡ (within_layer (map-TypeExpr TypeExpr Within within l)).arguments
unfolding within
within_is l = ap (λ (w : Within). w.arguments) (fold-roll-TypeExpr Within within_layer l)

arguments_prim : (n : ℕ) → arguments_in (expr.Prim n) ≡ []
arguments_prim n = ap arguments_in (sym (expr.rolls-Prim n)) ∙ within_is (TypeExpr-F.Prim n)

arguments_def : (t : TypeId) → arguments_in (expr.Def t) ≡ []
arguments_def t = ap arguments_in (sym (expr.rolls-Def t)) ∙ within_is (TypeExpr-F.Def t)

arguments_inst : (t : TypeId) (args : List TypeExpr) → arguments_in (expr.Inst t args) ≡ flat_map types_in args
arguments_inst t args = ap arguments_in (sym (expr.rolls-Inst t args)) ∙ within_is (TypeExpr-F.Inst t args) ∙ all_of args

arguments_array : (e : TypeExpr) → arguments_in (expr.Array e) ≡ arguments_in e
arguments_array e = ap arguments_in (sym (expr.rolls-Array e)) ∙ within_is (TypeExpr-F.Array e)

arguments_by_ref : (e : TypeExpr) → arguments_in (expr.ByRef e) ≡ arguments_in e
arguments_by_ref e = ap arguments_in (sym (expr.rolls-ByRef e)) ∙ within_is (TypeExpr-F.ByRef e)

arguments_var : (n : ℕ) → arguments_in (expr.Var n) ≡ []
arguments_var n = ap arguments_in (sym (expr.rolls-Var n)) ∙ within_is (TypeExpr-F.Var n)

arguments_mvar : (n : ℕ) → arguments_in (expr.MVar n) ≡ []
arguments_mvar n = ap arguments_in (sym (expr.rolls-MVar n)) ∙ within_is (TypeExpr-F.MVar n)

arguments_mod : (required : Bool) (by : TypeId) (e : TypeExpr) → arguments_in (expr.Mod required by e) ≡ arguments_in e
arguments_mod required by e = ap arguments_in (sym (expr.rolls-Mod required by e)) ∙ within_is (TypeExpr-F.Mod required by e)

pub each_shown : (args : List TypeExpr) → map shown (flat_map types_in args) ≡ flat_map (λ e. map shown (types_in e)) args
each_shown [] = refl
each_shown (e ∷ es) = map-append shown (types_in e) (flat_map types_in es) ∙ ap (λ (rest : List Fact). map shown (types_in e) ++ rest) (each_shown es)

-- ---- at the end of other facts

module _ (out : List Fact) where
  pub put_prim : (n : ℕ) → out ++ map shown (arguments_in (expr.Prim n)) ≡ out
  put_prim n = ap (λ (ts : List TypeId). out ++ map shown ts) (arguments_prim n) ∙ append-nil out

  pub put_def : (t : TypeId) → out ++ map shown (arguments_in (expr.Def t)) ≡ out
  put_def t = ap (λ (ts : List TypeId). out ++ map shown ts) (arguments_def t) ∙ append-nil out

  pub put_inst : (t : TypeId) (args : List TypeExpr) → out ++ map shown (arguments_in (expr.Inst t args)) ≡ out ++ flat_map (λ e. map shown (types_in e)) args
  put_inst t args = ap (λ (ts : List TypeId). out ++ map shown ts) (arguments_inst t args) ∙ ap (λ (rest : List Fact). out ++ rest) (each_shown args)

  pub put_array : (e : TypeExpr) → out ++ map shown (arguments_in (expr.Array e)) ≡ out ++ map shown (arguments_in e)
  put_array e = ap (λ (ts : List TypeId). out ++ map shown ts) (arguments_array e)

  pub put_by_ref : (e : TypeExpr) → out ++ map shown (arguments_in (expr.ByRef e)) ≡ out ++ map shown (arguments_in e)
  put_by_ref e = ap (λ (ts : List TypeId). out ++ map shown ts) (arguments_by_ref e)

  pub put_var : (n : ℕ) → out ++ map shown (arguments_in (expr.Var n)) ≡ out
  put_var n = ap (λ (ts : List TypeId). out ++ map shown ts) (arguments_var n) ∙ append-nil out

  pub put_mvar : (n : ℕ) → out ++ map shown (arguments_in (expr.MVar n)) ≡ out
  put_mvar n = ap (λ (ts : List TypeId). out ++ map shown ts) (arguments_mvar n) ∙ append-nil out

  pub put_mod : (required : Bool) (by : TypeId) (e : TypeExpr) → out ++ map shown (arguments_in (expr.Mod required by e)) ≡ out ++ map shown (arguments_in e)
  put_mod required by e = ap (λ (ts : List TypeId). out ++ map shown ts) (arguments_mod required by e)

-- what is shown at the end, one level of a type at a time
pub ruleset arguing = (put_prim, put_def, put_inst, put_array, put_by_ref, put_var, put_mvar, put_mod)
