-- What is said of the definitions that a type names, by its outermost construct.
use Rattle.std.proofs.Common.{◌≡◌, ℕ, ◌++◌, Bool, List, [], ◌∷◌, map, refl, sym, ap, ◌∙◌, append_assoc}
use Rattle.std.specs.List.{flat_map}
use Rattle.std.proofs.lemmas.List.{map-append, append-nil}
use Rattle.il_base.specs.declared.ids.TypeId.{TypeId}
use Rattle.il_base.specs.declared.world_model.expr.TypeExpr.{TypeExpr, fold-TypeExpr, fold-roll-TypeExpr}
use Rattle.il_base.specs.declared.world_model.expr.TypeExpr.TheOpen.{TypeExpr-F}
use Rattle.il_base.specs.declared.world_model.expr.TypeExpr.TheVariants as expr
use Rattle.rules.specs.mark_rules.Facts.{Fact}
use Rattle.rules.specs.mark_rules.Naming.{types_layer, types_in}
use Rattle.mark_parts.specs.declared.mark_facts.exprs.Said.{Said}
use Rattle.mark_parts.specs.mark_facts.Told.{said_of}

pub types_prim : (n : ℕ) → types_in (expr.Prim n) ≡ []
unfolding types_in
types_prim n = ap (fold-TypeExpr (List TypeId) types_layer) (sym (expr.rolls-Prim n)) ∙ fold-roll-TypeExpr (List TypeId) types_layer (TypeExpr-F.Prim n)

pub types_def : (t : TypeId) → types_in (expr.Def t) ≡ t ∷ []
unfolding types_in
types_def t = ap (fold-TypeExpr (List TypeId) types_layer) (sym (expr.rolls-Def t)) ∙ fold-roll-TypeExpr (List TypeId) types_layer (TypeExpr-F.Def t)

pub types_inst : (t : TypeId) (args : List TypeExpr) → types_in (expr.Inst t args) ≡ t ∷ flat_map (λ xs. xs) (map types_in args)
unfolding types_in
types_inst t args = ap (fold-TypeExpr (List TypeId) types_layer) (sym (expr.rolls-Inst t args)) ∙ fold-roll-TypeExpr (List TypeId) types_layer (TypeExpr-F.Inst t args)

pub types_array : (e : TypeExpr) → types_in (expr.Array e) ≡ types_in e
unfolding types_in
types_array e = ap (fold-TypeExpr (List TypeId) types_layer) (sym (expr.rolls-Array e)) ∙ fold-roll-TypeExpr (List TypeId) types_layer (TypeExpr-F.Array e)

pub types_by_ref : (e : TypeExpr) → types_in (expr.ByRef e) ≡ types_in e
unfolding types_in
types_by_ref e = ap (fold-TypeExpr (List TypeId) types_layer) (sym (expr.rolls-ByRef e)) ∙ fold-roll-TypeExpr (List TypeId) types_layer (TypeExpr-F.ByRef e)

pub types_var : (n : ℕ) → types_in (expr.Var n) ≡ []
unfolding types_in
types_var n = ap (fold-TypeExpr (List TypeId) types_layer) (sym (expr.rolls-Var n)) ∙ fold-roll-TypeExpr (List TypeId) types_layer (TypeExpr-F.Var n)

pub types_mvar : (n : ℕ) → types_in (expr.MVar n) ≡ []
unfolding types_in
types_mvar n = ap (fold-TypeExpr (List TypeId) types_layer) (sym (expr.rolls-MVar n)) ∙ fold-roll-TypeExpr (List TypeId) types_layer (TypeExpr-F.MVar n)

pub types_mod : (required : Bool) (by : TypeId) (e : TypeExpr) → types_in (expr.Mod required by e) ≡ by ∷ types_in e
unfolding types_in
types_mod required by e = ap (fold-TypeExpr (List TypeId) types_layer) (sym (expr.rolls-Mod required by e)) ∙ fold-roll-TypeExpr (List TypeId) types_layer (TypeExpr-F.Mod required by e)

-- ---- of all arguments

pub said_of_all : (f : TypeId → Fact) (args : List TypeExpr) → map f (flat_map (λ xs. xs) (map types_in args)) ≡ flat_map (λ e. map f (types_in e)) args
said_of_all f [] = refl
said_of_all f (e ∷ es) = map-append f (types_in e) (flat_map (λ xs. xs) (map types_in es)) ∙ ap (λ (rest : List Fact). map f (types_in e) ++ rest) (said_of_all f es)

-- ---- at the end of other facts

module _ (s : Said) (out : List Fact) where
  pub say_prim : (n : ℕ) → out ++ map (said_of s) (types_in (expr.Prim n)) ≡ out
  say_prim n = rw (types_prim n) (append-nil out)

  pub say_def : (t : TypeId) → out ++ map (said_of s) (types_in (expr.Def t)) ≡ out ++ said_of s t ∷ []
  say_def t = rw (types_def t) refl

  pub say_inst : (t : TypeId) (args : List TypeExpr) → out ++ map (said_of s) (types_in (expr.Inst t args)) ≡ (out ++ said_of s t ∷ []) ++ flat_map (λ e. map (said_of s) (types_in e)) args
  say_inst t args =
      ap (λ (ts : List TypeId). out ++ map (said_of s) ts) (types_inst t args) ∙ ap (λ (rest : List Fact). out ++ said_of s t ∷ rest) (said_of_all (said_of s) args)
      ∙ sym (append_assoc out (said_of s t ∷ []) (flat_map (λ e. map (said_of s) (types_in e)) args))

  pub say_array : (e : TypeExpr) → out ++ map (said_of s) (types_in (expr.Array e)) ≡ out ++ map (said_of s) (types_in e)
  say_array e = rw (types_array e) refl

  pub say_by_ref : (e : TypeExpr) → out ++ map (said_of s) (types_in (expr.ByRef e)) ≡ out ++ map (said_of s) (types_in e)
  say_by_ref e = rw (types_by_ref e) refl

  pub say_var : (n : ℕ) → out ++ map (said_of s) (types_in (expr.Var n)) ≡ out
  say_var n = rw (types_var n) (append-nil out)

  pub say_mvar : (n : ℕ) → out ++ map (said_of s) (types_in (expr.MVar n)) ≡ out
  say_mvar n = rw (types_mvar n) (append-nil out)

  pub say_mod : (required : Bool) (by : TypeId) (e : TypeExpr) → out ++ map (said_of s) (types_in (expr.Mod required by e)) ≡ (out ++ said_of s by ∷ []) ++ map (said_of s) (types_in e)
  say_mod required by e = rw (types_mod required by e) (sym (append_assoc out (said_of s by ∷ []) (map (said_of s) (types_in e))))

-- what is said at the end, one level of a type at a time
pub ruleset saying = (say_prim, say_def, say_inst, say_array, say_by_ref, say_var, say_mvar, say_mod)
