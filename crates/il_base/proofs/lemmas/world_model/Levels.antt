-- Whether a type has more than a number of levels, by its outermost construct.
use Rattle.std.proofs.Common.{◌≡◌, ℕ, suc, ◌-◌, ◌<◌, Bool, true, false, List, map, nat_lt, refl, sym, ap, ◌∙◌, arith}
use Rattle.il_base.specs.declared.ids.TypeId.{TypeId}
use Rattle.il_base.specs.declared.world_model.expr.TypeExpr.{TypeExpr, fold-roll-TypeExpr, out-TypeExpr, roll-out-TypeExpr}
use Rattle.il_base.specs.declared.world_model.expr.TypeExpr.TheFolds.{map-TypeExpr}
use Rattle.il_base.specs.declared.world_model.expr.TypeExpr.TheOpen.{TypeExpr-F}
use Rattle.il_base.specs.declared.world_model.expr.TypeExpr.TheVariants as expr
use Rattle.il_base.specs.world_model.Exprs.{deepest, levels_layer, levels}
use Rattle.il_base.proofs.lemmas.world_model.ExprLayers.{levels_prim, levels_def, levels_inst, levels_array, levels_by_ref, levels_var, levels_mvar, levels_mod}
use Rattle.std.proofs.lemmas.Bool.Decides.{nat_tests}

positive : (n : ℕ) → nat_lt 0 (suc n) ≡ true
positive n = grind (arith, nat_tests)

some_level : (x : TypeExpr-F ℕ) → nat_lt 0 (levels_layer x) ≡ true
some_level (TypeExpr-F.Prim n) = refl
some_level (TypeExpr-F.Def t) = refl
some_level (TypeExpr-F.Inst t ns) = positive (deepest ns)
some_level (TypeExpr-F.Array n) = positive n
some_level (TypeExpr-F.ByRef n) = positive n
some_level (TypeExpr-F.Var n) = refl
some_level (TypeExpr-F.MVar n) = refl
some_level (TypeExpr-F.Mod required by n) = positive n

pub deeper_none : (most : ℕ) (e : TypeExpr) → most ≡ 0 → nat_lt most (levels e) ≡ true
unfolding levels
deeper_none most e h =
    let x : TypeExpr-F ℕ = map-TypeExpr TypeExpr ℕ levels (out-TypeExpr e) in
    let l : levels e ≡ levels_layer x = ap levels (sym (roll-out-TypeExpr e)) ∙ fold-roll-TypeExpr ℕ levels_layer (out-TypeExpr e) in
    rw (h, l) (some_level x)

-- one level less on both sides
below : (most n m : ℕ) → 0 < most → m ≡ suc n → nat_lt most m ≡ nat_lt (most - 1) n
below most n m h e = grind (arith, nat_tests)

single : (most m : ℕ) → 0 < most → m ≡ 1 → nat_lt most m ≡ false
single most m h e = grind (arith, nat_tests)

pub deeper_prim : (most n : ℕ) → 0 < most → nat_lt most (levels (expr.Prim n)) ≡ false
deeper_prim most n h = single most (levels (expr.Prim n)) h (levels_prim n)

pub deeper_def : (most : ℕ) (t : TypeId) → 0 < most → nat_lt most (levels (expr.Def t)) ≡ false
deeper_def most t h = single most (levels (expr.Def t)) h (levels_def t)

pub deeper_var : (most n : ℕ) → 0 < most → nat_lt most (levels (expr.Var n)) ≡ false
deeper_var most n h = single most (levels (expr.Var n)) h (levels_var n)

pub deeper_mvar : (most n : ℕ) → 0 < most → nat_lt most (levels (expr.MVar n)) ≡ false
deeper_mvar most n h = single most (levels (expr.MVar n)) h (levels_mvar n)

pub deeper_inst : (most : ℕ) (t : TypeId) (args : List TypeExpr) → 0 < most → nat_lt most (levels (expr.Inst t args)) ≡ nat_lt (most - 1) (deepest (map levels args))
deeper_inst most t args h = below most (deepest (map levels args)) (levels (expr.Inst t args)) h (levels_inst t args)

pub deeper_array : (most : ℕ) (e : TypeExpr) → 0 < most → nat_lt most (levels (expr.Array e)) ≡ nat_lt (most - 1) (levels e)
deeper_array most e h = below most (levels e) (levels (expr.Array e)) h (levels_array e)

pub deeper_by_ref : (most : ℕ) (e : TypeExpr) → 0 < most → nat_lt most (levels (expr.ByRef e)) ≡ nat_lt (most - 1) (levels e)
deeper_by_ref most e h = below most (levels e) (levels (expr.ByRef e)) h (levels_by_ref e)

pub deeper_mod : (most : ℕ) (required : Bool) (by : TypeId) (e : TypeExpr) → 0 < most → nat_lt most (levels (expr.Mod required by e)) ≡ nat_lt (most - 1) (levels e)
deeper_mod most required by e h = below most (levels e) (levels (expr.Mod required by e)) h (levels_mod required by e)

-- more than a number of levels, one level at a time
pub ruleset deeper = (deeper_none, deeper_prim, deeper_def, deeper_var, deeper_mvar, deeper_inst, deeper_array, deeper_by_ref, deeper_mod)
