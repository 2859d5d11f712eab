-- Equality of type expressions by their outermost construct.
use Rattle.std.proofs.Common.{◌≡◌, ℕ, Bool, true, false, nat_eq, ◌&&◌, List, [], ◌∷◌, map, refl, sym, ap, ◌∙◌}
use Rattle.il_base.specs.declared.ids.TypeId.{TypeId}
use Rattle.il_base.specs.declared.world_model.expr.TypeExpr.{TypeExpr, roll-TypeExpr, out-roll-TypeExpr}
use Rattle.il_base.specs.declared.world_model.expr.TypeExpr.TheFolds.{map-TypeExpr}
use Rattle.il_base.specs.declared.world_model.expr.TypeExpr.TheOpen.{TypeExpr-F}
use Rattle.il_base.specs.declared.world_model.expr.TypeExpr.TheVariants as expr
use Rattle.il_base.specs.world_model.Exprs.{same_bool, all_same, same_in, same_expr, same_exprs}
use Rattle.il_base.proofs.lemmas.world_model.SameExpr.{rolled, same_only}

-- two of one construct

paired : (x y : TypeExpr-F TypeExpr) (a b : TypeExpr) → roll-TypeExpr x ≡ a → roll-TypeExpr y ≡ b → same_expr a b ≡ same_in (map-TypeExpr TypeExpr (TypeExpr → Bool) same_expr x) y
paired x y a b d e =
    (λ i. same_expr (sym d i) (sym e i)) ∙ rolled x (roll-TypeExpr y) ∙ ap (same_in (map-TypeExpr TypeExpr (TypeExpr → Bool) same_expr x)) (out-roll-TypeExpr y)

pub same_prims : (n m : ℕ) → same_expr (expr.Prim n) (expr.Prim m) ≡ nat_eq n m
same_prims n m = paired (TypeExpr-F.Prim n) (TypeExpr-F.Prim m) _ _ (expr.rolls-Prim n) (expr.rolls-Prim m)

pub same_defs : (t u : TypeId) → same_expr (expr.Def t) (expr.Def u) ≡ nat_eq t.0 u.0
same_defs t u = paired (TypeExpr-F.Def t) (TypeExpr-F.Def u) _ _ (expr.rolls-Def t) (expr.rolls-Def u)

all_pairs : (xs ys : List TypeExpr) → all_same (map same_expr xs) ys ≡ same_exprs xs ys
unfolding same_exprs
all_pairs [] [] = refl
all_pairs [] (y ∷ ys) = refl
all_pairs (x ∷ xs) [] = refl
all_pairs (x ∷ xs) (y ∷ ys) = ap (λ (b : Bool). same_expr x y && b) (all_pairs xs ys)

pub same_insts : (t u : TypeId) (xs ys : List TypeExpr) → same_expr (expr.Inst t xs) (expr.Inst u ys) ≡ (nat_eq t.0 u.0 && same_exprs xs ys)
same_insts t u xs ys =
    paired (TypeExpr-F.Inst t xs) (TypeExpr-F.Inst u ys) _ _ (expr.rolls-Inst t xs) (expr.rolls-Inst u ys) ∙ ap (λ (b : Bool). nat_eq t.0 u.0 && b) (all_pairs xs ys)

pub same_arrays : (x y : TypeExpr) → same_expr (expr.Array x) (expr.Array y) ≡ same_expr x y
same_arrays x y = paired (TypeExpr-F.Array x) (TypeExpr-F.Array y) _ _ (expr.rolls-Array x) (expr.rolls-Array y)

pub same_by_refs : (x y : TypeExpr) → same_expr (expr.ByRef x) (expr.ByRef y) ≡ same_expr x y
same_by_refs x y = paired (TypeExpr-F.ByRef x) (TypeExpr-F.ByRef y) _ _ (expr.rolls-ByRef x) (expr.rolls-ByRef y)

pub same_vars : (n m : ℕ) → same_expr (expr.Var n) (expr.Var m) ≡ nat_eq n m
same_vars n m = paired (TypeExpr-F.Var n) (TypeExpr-F.Var m) _ _ (expr.rolls-Var n) (expr.rolls-Var m)

pub same_mvars : (n m : ℕ) → same_expr (expr.MVar n) (expr.MVar m) ≡ nat_eq n m
same_mvars n m = paired (TypeExpr-F.MVar n) (TypeExpr-F.MVar m) _ _ (expr.rolls-MVar n) (expr.rolls-MVar m)

pub same_mods : (p q : Bool) (t u : TypeId) (x y : TypeExpr) → same_expr (expr.Mod p t x) (expr.Mod q u y) ≡ (same_bool p q && nat_eq t.0 u.0 && same_expr x y)
same_mods p q t u x y = paired (TypeExpr-F.Mod p t x) (TypeExpr-F.Mod q u y) _ _ (expr.rolls-Mod p t x) (expr.rolls-Mod q u y)

-- types under the same modifier
pub same_inner : (p q : Bool) (t u : TypeId) (x y : TypeExpr) → (same_bool p q && nat_eq t.0 u.0) ≡ true → same_expr (expr.Mod p t x) (expr.Mod q u y) ≡ same_expr x y
same_inner p q t u x y h = same_mods p q t u x y ∙ ap (λ (b : Bool). b && same_expr x y) h

-- one beside a type of another construct

unlike : (a b : TypeExpr) (s : Bool) → same_expr a b ≡ s → (a ≡ b → ⊥) → s ≡ false
unlike a b true h n = absurd (n (same_only a b h))
unlike a b false h n = refl

pub other_prim : (n : ℕ) (b : TypeExpr) → ((m : ℕ) → b ≡ expr.Prim m → ⊥) → same_expr (expr.Prim n) b ≡ false
other_prim n b h = unlike (expr.Prim n) b _ refl (λ e. h n (sym e))

pub other_def : (t : TypeId) (b : TypeExpr) → ((u : TypeId) → b ≡ expr.Def u → ⊥) → same_expr (expr.Def t) b ≡ false
other_def t b h = unlike (expr.Def t) b _ refl (λ e. h t (sym e))

pub other_inst : (t : TypeId) (xs : List TypeExpr) (b : TypeExpr) → ((u : TypeId) → (ys : List TypeExpr) → b ≡ expr.Inst u ys → ⊥) → same_expr (expr.Inst t xs) b ≡ false
other_inst t xs b h = unlike (expr.Inst t xs) b _ refl (λ e. h t xs (sym e))

pub other_array : (x b : TypeExpr) → ((y : TypeExpr) → b ≡ expr.Array y → ⊥) → same_expr (expr.Array x) b ≡ false
other_array x b h = unlike (expr.Array x) b _ refl (λ e. h x (sym e))

pub other_by_ref : (x b : TypeExpr) → ((y : TypeExpr) → b ≡ expr.ByRef y → ⊥) → same_expr (expr.ByRef x) b ≡ false
other_by_ref x b h = unlike (expr.ByRef x) b _ refl (λ e. h x (sym e))

pub other_var : (n : ℕ) (b : TypeExpr) → ((m : ℕ) → b ≡ expr.Var m → ⊥) → same_expr (expr.Var n) b ≡ false
other_var n b h = unlike (expr.Var n) b _ refl (λ e. h n (sym e))

pub other_mvar : (n : ℕ) (b : TypeExpr) → ((m : ℕ) → b ≡ expr.MVar m → ⊥) → same_expr (expr.MVar n) b ≡ false
other_mvar n b h = unlike (expr.MVar n) b _ refl (λ e. h n (sym e))

pub other_mod : (p : Bool) (t : TypeId) (x b : TypeExpr) → ((q : Bool) → (u : TypeId) → (y : TypeExpr) → b ≡ expr.Mod q u y → ⊥) → same_expr (expr.Mod p t x) b ≡ false
other_mod p t x b h = unlike (expr.Mod p t x) b _ refl (λ e. h p t x (sym e))

-- equality, one level of a type at a time
pub ruleset comparing =
    (same_prims, same_defs, same_insts, same_arrays, same_by_refs, same_vars, same_mvars, same_mods, other_prim, other_def, other_inst, other_array, other_by_ref, other_var, other_mvar, other_mod)
