-- Types without modifiers, by their outermost construct.
use Rattle.std.proofs.Common.{◌≡◌, ℕ, Bool, false, List, [], ◌∷◌, map, refl, sym, ap, subst, ◌∙◌}
use Rattle.std.specs.Prelude.{◌==◌}
use Rattle.il_base.specs.declared.element.TheConstants.{VOID}
use Rattle.il_base.specs.declared.ids.TypeId.{TypeId}
use Rattle.il_base.specs.declared.world_model.expr.TypeExpr.{TypeExpr, fold-TypeExpr, fold-roll-TypeExpr, ind-TypeExpr, out-TypeExpr, roll-TypeExpr, out-roll-TypeExpr}
use Rattle.il_base.specs.declared.world_model.expr.TypeExpr.TheFolds.{map-TypeExpr}
use Rattle.il_base.specs.declared.world_model.expr.TypeExpr.TheOpen.{TypeExpr-F}
use Rattle.il_base.specs.declared.world_model.expr.TypeExpr.TheVariants as expr
use Rattle.rules.specs.step_rules.Closing.{plain_layer, plain, whole_of, is_void_in, is_void}

abbrev Pair : TypeExpr → TypeExpr × TypeExpr
Pair = fold-TypeExpr (TypeExpr × TypeExpr) plain_layer

abbrev IsFirst : TypeExpr → Type 0
IsFirst e = (Pair e).0 ≡ e

abbrev Proved : Type 0
Proved = (e : TypeExpr) × IsFirst e

abbrev parts : TypeExpr-F Proved → TypeExpr-F TypeExpr
parts y = map-TypeExpr Proved TypeExpr (λ e. e.0) y

pair_rolled : (x : TypeExpr-F TypeExpr) → Pair (roll-TypeExpr x) ≡ plain_layer (map-TypeExpr TypeExpr (TypeExpr × TypeExpr) Pair x)
pair_rolled x = fold-roll-TypeExpr (TypeExpr × TypeExpr) plain_layer x

whole_args : (xs : List Proved) → whole_of (map Pair (map (λ e. e.0) xs)) ≡ map (λ e. e.0) xs
whole_args [] = refl
whole_args (x ∷ xs) = λ i. x.1 i ∷ whole_args xs i

first_layer : (y : TypeExpr-F Proved) → (plain_layer (map-TypeExpr TypeExpr (TypeExpr × TypeExpr) Pair (parts y))).0 ≡ roll-TypeExpr (parts y)
first_layer (TypeExpr-F.Prim n) = sym (expr.rolls-Prim n)
first_layer (TypeExpr-F.Def t) = sym (expr.rolls-Def t)
first_layer (TypeExpr-F.Inst t xs) = ap (expr.Inst t) (whole_args xs) ∙ sym (expr.rolls-Inst t (map (λ e. e.0) xs))
first_layer (TypeExpr-F.Array x) = ap expr.Array x.1 ∙ sym (expr.rolls-Array x.0)
first_layer (TypeExpr-F.ByRef x) = ap expr.ByRef x.1 ∙ sym (expr.rolls-ByRef x.0)
first_layer (TypeExpr-F.Var n) = sym (expr.rolls-Var n)
first_layer (TypeExpr-F.MVar n) = sym (expr.rolls-MVar n)
first_layer (TypeExpr-F.Mod required by x) = ap (expr.Mod required by) x.1 ∙ sym (expr.rolls-Mod required by x.0)

first_rolled : (y : TypeExpr-F Proved) → IsFirst (roll-TypeExpr (parts y))
first_rolled y = ap (λ (p : TypeExpr × TypeExpr). p.0) (pair_rolled (parts y)) ∙ first_layer y

pair_first : (e : TypeExpr) → (Pair e).0 ≡ e
pair_first = ind-TypeExpr IsFirst (λ x y is. subst (λ z. IsFirst (roll-TypeExpr z)) is (first_rolled y))

firsts : (es : List TypeExpr) → whole_of (map Pair es) ≡ es
firsts [] = refl
firsts (e ∷ es) = λ i. pair_first e i ∷ firsts es i

-- by layers
abbrev plain_in : TypeExpr-F TypeExpr → TypeExpr
plain_in (TypeExpr-F.Mod required by x) = plain x
plain_in x = roll-TypeExpr x

second_layer : (x : TypeExpr-F TypeExpr) → (plain_layer (map-TypeExpr TypeExpr (TypeExpr × TypeExpr) Pair x)).1 ≡ plain_in x
unfolding plain
second_layer (TypeExpr-F.Prim n) = sym (expr.rolls-Prim n)
second_layer (TypeExpr-F.Def t) = sym (expr.rolls-Def t)
second_layer (TypeExpr-F.Inst t args) = ap (expr.Inst t) (firsts args) ∙ sym (expr.rolls-Inst t args)
second_layer (TypeExpr-F.Array x) = ap expr.Array (pair_first x) ∙ sym (expr.rolls-Array x)
second_layer (TypeExpr-F.ByRef x) = ap expr.ByRef (pair_first x) ∙ sym (expr.rolls-ByRef x)
second_layer (TypeExpr-F.Var n) = sym (expr.rolls-Var n)
second_layer (TypeExpr-F.MVar n) = sym (expr.rolls-MVar n)
second_layer (TypeExpr-F.Mod required by x) = refl

plain_rolled : (x : TypeExpr-F TypeExpr) → plain (roll-TypeExpr x) ≡ plain_in x
unfolding plain
plain_rolled x = ap (λ (p : TypeExpr × TypeExpr). p.1) (pair_rolled x) ∙ second_layer x

pub plain_prim : (n : ℕ) → plain (expr.Prim n) ≡ expr.Prim n
plain_prim n = ap plain (sym (expr.rolls-Prim n)) ∙ plain_rolled (TypeExpr-F.Prim n) ∙ expr.rolls-Prim n

pub plain_def : (t : TypeId) → plain (expr.Def t) ≡ expr.Def t
plain_def t = ap plain (sym (expr.rolls-Def t)) ∙ plain_rolled (TypeExpr-F.Def t) ∙ expr.rolls-Def t

pub plain_inst : (t : TypeId) (args : List TypeExpr) → plain (expr.Inst t args) ≡ expr.Inst t args
plain_inst t args = ap plain (sym (expr.rolls-Inst t args)) ∙ plain_rolled (TypeExpr-F.Inst t args) ∙ expr.rolls-Inst t args

pub plain_array : (e : TypeExpr) → plain (expr.Array e) ≡ expr.Array e
plain_array e = ap plain (sym (expr.rolls-Array e)) ∙ plain_rolled (TypeExpr-F.Array e) ∙ expr.rolls-Array e

pub plain_by_ref : (e : TypeExpr) → plain (expr.ByRef e) ≡ expr.ByRef e
plain_by_ref e = ap plain (sym (expr.rolls-ByRef e)) ∙ plain_rolled (TypeExpr-F.ByRef e) ∙ expr.rolls-ByRef e

pub plain_var : (n : ℕ) → plain (expr.Var n) ≡ expr.Var n
plain_var n = ap plain (sym (expr.rolls-Var n)) ∙ plain_rolled (TypeExpr-F.Var n) ∙ expr.rolls-Var n

pub plain_mvar : (n : ℕ) → plain (expr.MVar n) ≡ expr.MVar n
plain_mvar n = ap plain (sym (expr.rolls-MVar n)) ∙ plain_rolled (TypeExpr-F.MVar n) ∙ expr.rolls-MVar n

pub plain_mod : (required : Bool) (by : TypeId) (e : TypeExpr) → plain (expr.Mod required by e) ≡ plain e
plain_mod required by e = ap plain (sym (expr.rolls-Mod required by e)) ∙ plain_rolled (TypeExpr-F.Mod required by e)

-- a type without modifiers, one level at a time
pub ruleset stripping = (plain_prim, plain_def, plain_inst, plain_array, plain_by_ref, plain_var, plain_mvar, plain_mod)

-- ---- VOID

abbrev void_in : TypeExpr-F TypeExpr → Bool
void_in (TypeExpr-F.Mod required by x) = is_void x
void_in x = is_void_in x

void_plain : (x : TypeExpr-F TypeExpr) → is_void_in (out-TypeExpr (plain_in x)) ≡ void_in x
unfolding is_void
void_plain (TypeExpr-F.Prim n) = ap is_void_in (out-roll-TypeExpr (TypeExpr-F.Prim n))
void_plain (TypeExpr-F.Def t) = ap is_void_in (out-roll-TypeExpr (TypeExpr-F.Def t))
void_plain (TypeExpr-F.Inst t args) = ap is_void_in (out-roll-TypeExpr (TypeExpr-F.Inst t args))
void_plain (TypeExpr-F.Array x) = ap is_void_in (out-roll-TypeExpr (TypeExpr-F.Array x))
void_plain (TypeExpr-F.ByRef x) = ap is_void_in (out-roll-TypeExpr (TypeExpr-F.ByRef x))
void_plain (TypeExpr-F.Var n) = ap is_void_in (out-roll-TypeExpr (TypeExpr-F.Var n))
void_plain (TypeExpr-F.MVar n) = ap is_void_in (out-roll-TypeExpr (TypeExpr-F.MVar n))
void_plain (TypeExpr-F.Mod required by x) = refl

void_rolled : (x : TypeExpr-F TypeExpr) → is_void (roll-TypeExpr x) ≡ void_in x
unfolding is_void
void_rolled x = ap (λ (e : TypeExpr). is_void_in (out-TypeExpr e)) (plain_rolled x) ∙ void_plain x

pub void_prim : (n : ℕ) → is_void (expr.Prim n) ≡ (n == VOID)
void_prim n = ap is_void (sym (expr.rolls-Prim n)) ∙ void_rolled (TypeExpr-F.Prim n)

pub void_def : (t : TypeId) → is_void (expr.Def t) ≡ false
void_def t = ap is_void (sym (expr.rolls-Def t)) ∙ void_rolled (TypeExpr-F.Def t)

pub void_inst : (t : TypeId) (args : List TypeExpr) → is_void (expr.Inst t args) ≡ false
void_inst t args = ap is_void (sym (expr.rolls-Inst t args)) ∙ void_rolled (TypeExpr-F.Inst t args)

pub void_array : (e : TypeExpr) → is_void (expr.Array e) ≡ false
void_array e = ap is_void (sym (expr.rolls-Array e)) ∙ void_rolled (TypeExpr-F.Array e)

pub void_by_ref : (e : TypeExpr) → is_void (expr.ByRef e) ≡ false
void_by_ref e = ap is_void (sym (expr.rolls-ByRef e)) ∙ void_rolled (TypeExpr-F.ByRef e)

pub void_var : (n : ℕ) → is_void (expr.Var n) ≡ false
void_var n = ap is_void (sym (expr.rolls-Var n)) ∙ void_rolled (TypeExpr-F.Var n)

pub void_mvar : (n : ℕ) → is_void (expr.MVar n) ≡ false
void_mvar n = ap is_void (sym (expr.rolls-MVar n)) ∙ void_rolled (TypeExpr-F.MVar n)

pub void_mod : (required : Bool) (by : TypeId) (e : TypeExpr) → is_void (expr.Mod required by e) ≡ is_void e
void_mod required by e = ap is_void (sym (expr.rolls-Mod required by e)) ∙ void_rolled (TypeExpr-F.Mod required by e)

-- whether a type is VOID, one level at a time
pub ruleset telling_void = (void_prim, void_def, void_inst, void_array, void_by_ref, void_var, void_mvar, void_mod)
