-- How a type counts, by its outermost construct.
use Rattle.std.proofs.Common.{◌≡◌, ℕ, suc, Bool, true, false, ◌&&◌, List, [], ◌∷◌, length, map, Option, refl, sym, ap, ◌∙◌}
use Rattle.std.specs.Prelude.{◌==◌, not, if◌then◌else◌}
use Rattle.std.specs.List.{list_all}
use Rattle.il_base.specs.declared.element.TheConstants.{VOID}
use Rattle.il_base.specs.declared.ids.TypeId.{TypeId}
use Rattle.il_base.specs.declared.world_model.expr.TypeExpr.{TypeExpr, fold-TypeExpr, fold-roll-TypeExpr}
use Rattle.il_base.specs.declared.world_model.expr.TypeExpr.TheOpen.{TypeExpr-F}
use Rattle.il_base.specs.declared.world_model.expr.TypeExpr.TheVariants as expr
use Rattle.il_base.specs.declared.cil_values.definition.Head.{Head}
use Rattle.rules.specs.step_rules.Closing.{Standing, alone, whole, broken, standing, standing_layer, is_whole, is_sound, whole_if, alone_if, takes}

whole_of_if : (b : Bool) → is_whole (whole_if b) ≡ b
whole_of_if true = refl
whole_of_if false = refl

sound_of_if : (b : Bool) → is_sound (whole_if b) ≡ b
sound_of_if true = refl
sound_of_if false = refl

whole_of_alone : (x : Standing) → is_whole (alone_if x) ≡ false
whole_of_alone broken = refl
whole_of_alone alone = refl
whole_of_alone whole = refl

sound_of_alone : (x : Standing) → is_sound (alone_if x) ≡ is_sound x
sound_of_alone broken = refl
sound_of_alone alone = refl
sound_of_alone whole = refl

whole_of_void : (b : Bool) → is_whole (if b then alone else whole) ≡ not b
whole_of_void true = refl
whole_of_void false = refl

sound_of_void : (b : Bool) → is_sound (if b then alone else whole) ≡ true
sound_of_void true = refl
sound_of_void false = refl

all_whole : (heads : ℕ → Option Head) (es : List TypeExpr) → list_all is_whole (map (standing heads) es) ≡ list_all (λ e. is_whole (standing heads e)) es
all_whole heads [] = refl
all_whole heads (e ∷ es) = ap (λ b. is_whole (standing heads e) && b) (all_whole heads es)

module _ (heads : ℕ → Option Head) where
  abbrev Folded : TypeExpr → Standing
  Folded = fold-TypeExpr Standing (standing_layer heads)

  standing_prim : (n : ℕ) → standing heads (expr.Prim n) ≡ standing_layer heads (TypeExpr-F.Prim n)
  unfolding standing
  standing_prim n = ap Folded (sym (expr.rolls-Prim n)) ∙ fold-roll-TypeExpr Standing (standing_layer heads) (TypeExpr-F.Prim n)

  standing_def : (t : TypeId) → standing heads (expr.Def t) ≡ whole_if (takes (heads t.0) 0)
  unfolding standing
  standing_def t = ap Folded (sym (expr.rolls-Def t)) ∙ fold-roll-TypeExpr Standing (standing_layer heads) (TypeExpr-F.Def t)

  standing_inst : (t : TypeId) (args : List TypeExpr) → standing heads (expr.Inst t args) ≡ standing_layer heads (TypeExpr-F.Inst t (map (standing heads) args))
  unfolding standing
  standing_inst t args = ap Folded (sym (expr.rolls-Inst t args)) ∙ fold-roll-TypeExpr Standing (standing_layer heads) (TypeExpr-F.Inst t args)

  standing_array : (e : TypeExpr) → standing heads (expr.Array e) ≡ whole_if (is_whole (standing heads e))
  unfolding standing
  standing_array e = ap Folded (sym (expr.rolls-Array e)) ∙ fold-roll-TypeExpr Standing (standing_layer heads) (TypeExpr-F.Array e)

  standing_by_ref : (e : TypeExpr) → standing heads (expr.ByRef e) ≡ alone_if (standing heads e)
  unfolding standing
  standing_by_ref e = ap Folded (sym (expr.rolls-ByRef e)) ∙ fold-roll-TypeExpr Standing (standing_layer heads) (TypeExpr-F.ByRef e)

  standing_var : (n : ℕ) → standing heads (expr.Var n) ≡ broken
  unfolding standing
  standing_var n = ap Folded (sym (expr.rolls-Var n)) ∙ fold-roll-TypeExpr Standing (standing_layer heads) (TypeExpr-F.Var n)

  standing_mvar : (n : ℕ) → standing heads (expr.MVar n) ≡ broken
  unfolding standing
  standing_mvar n = ap Folded (sym (expr.rolls-MVar n)) ∙ fold-roll-TypeExpr Standing (standing_layer heads) (TypeExpr-F.MVar n)

  standing_mod : (required : Bool) (by : TypeId) (e : TypeExpr) → standing heads (expr.Mod required by e) ≡ standing heads e
  unfolding standing
  standing_mod required by e = ap Folded (sym (expr.rolls-Mod required by e)) ∙ fold-roll-TypeExpr Standing (standing_layer heads) (TypeExpr-F.Mod required by e)

  pub whole_prim : (n : ℕ) → is_whole (standing heads (expr.Prim n)) ≡ not (n == VOID)
  whole_prim n = ap is_whole (standing_prim n) ∙ whole_of_void (n == VOID)

  pub whole_def : (t : TypeId) → is_whole (standing heads (expr.Def t)) ≡ takes (heads t.0) 0
  whole_def t = ap is_whole (standing_def t) ∙ whole_of_if (takes (heads t.0) 0)

  counted : (args : List TypeExpr) → length (map (standing heads) args) ≡ length args
  counted [] = refl
  counted (e ∷ es) = ap suc (counted es)

  inst_test : (t : TypeId) (args : List TypeExpr) → (takes (heads t.0) (length (map (standing heads) args)) && list_all is_whole (map (standing heads) args)) ≡ (takes (heads t.0) (length args) && list_all (λ e. is_whole (standing heads e)) args)
  inst_test t args = λ i. takes (heads t.0) (counted args i) && all_whole heads args i

  pub whole_inst : (t : TypeId) (args : List TypeExpr) → is_whole (standing heads (expr.Inst t args)) ≡ (takes (heads t.0) (length args) && list_all (λ e. is_whole (standing heads e)) args)
  whole_inst t args = ap is_whole (standing_inst t args) ∙ whole_of_if (takes (heads t.0) (length (map (standing heads) args)) && list_all is_whole (map (standing heads) args)) ∙ inst_test t args

  pub whole_array : (e : TypeExpr) → is_whole (standing heads (expr.Array e)) ≡ is_whole (standing heads e)
  whole_array e = ap is_whole (standing_array e) ∙ whole_of_if (is_whole (standing heads e))

  pub whole_by_ref : (e : TypeExpr) → is_whole (standing heads (expr.ByRef e)) ≡ false
  whole_by_ref e = ap is_whole (standing_by_ref e) ∙ whole_of_alone (standing heads e)

  pub whole_var : (n : ℕ) → is_whole (standing heads (expr.Var n)) ≡ false
  whole_var n = ap is_whole (standing_var n)

  pub whole_mvar : (n : ℕ) → is_whole (standing heads (expr.MVar n)) ≡ false
  whole_mvar n = ap is_whole (standing_mvar n)

  pub whole_mod : (required : Bool) (by : TypeId) (e : TypeExpr) → is_whole (standing heads (expr.Mod required by e)) ≡ is_whole (standing heads e)
  whole_mod required by e = ap is_whole (standing_mod required by e)

  pub sound_prim : (n : ℕ) → is_sound (standing heads (expr.Prim n)) ≡ true
  sound_prim n = ap is_sound (standing_prim n) ∙ sound_of_void (n == VOID)

  pub sound_def : (t : TypeId) → is_sound (standing heads (expr.Def t)) ≡ takes (heads t.0) 0
  sound_def t = ap is_sound (standing_def t) ∙ sound_of_if (takes (heads t.0) 0)

  pub sound_inst : (t : TypeId) (args : List TypeExpr) → is_sound (standing heads (expr.Inst t args)) ≡ (takes (heads t.0) (length args) && list_all (λ e. is_whole (standing heads e)) args)
  sound_inst t args = ap is_sound (standing_inst t args) ∙ sound_of_if (takes (heads t.0) (length (map (standing heads) args)) && list_all is_whole (map (standing heads) args)) ∙ inst_test t args

  pub sound_array : (e : TypeExpr) → is_sound (standing heads (expr.Array e)) ≡ is_whole (standing heads e)
  sound_array e = ap is_sound (standing_array e) ∙ sound_of_if (is_whole (standing heads e))

  pub sound_by_ref : (e : TypeExpr) → is_sound (standing heads (expr.ByRef e)) ≡ is_sound (standing heads e)
  sound_by_ref e = ap is_sound (standing_by_ref e) ∙ sound_of_alone (standing heads e)

  pub sound_var : (n : ℕ) → is_sound (standing heads (expr.Var n)) ≡ false
  sound_var n = ap is_sound (standing_var n)

  pub sound_mvar : (n : ℕ) → is_sound (standing heads (expr.MVar n)) ≡ false
  sound_mvar n = ap is_sound (standing_mvar n)

  pub sound_mod : (required : Bool) (by : TypeId) (e : TypeExpr) → is_sound (standing heads (expr.Mod required by e)) ≡ is_sound (standing heads e)
  sound_mod required by e = ap is_sound (standing_mod required by e)

-- whether a type can be an argument, an element or a field, one level at a time
pub ruleset standing_whole = (whole_prim, whole_def, whole_inst, whole_array, whole_by_ref, whole_var, whole_mvar, whole_mod)

-- whether a type can be a return, one level at a time
pub ruleset standing_sound = (sound_prim, sound_def, sound_inst, sound_array, sound_by_ref, sound_var, sound_mvar, sound_mod)
