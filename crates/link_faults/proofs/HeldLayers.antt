-- The value types in a type by its outermost construct.
use Rattle.std.proofs.Common.{◌≡◌, ℕ, Bool, true, false, List, [], ◌∷◌, ◌++◌, map, refl, sym, ap, ◌∙◌, append_assoc}
use Rattle.std.specs.Prelude.{if◌then◌else◌, slice_get, unwrap_or}
use Rattle.std.specs.List.{flat_map}
use Rattle.std.proofs.lemmas.List.{append-nil}
use Rattle.il_base.specs.declared.ids.TypeId.{TypeId}
use Rattle.il_base.specs.declared.world_model.expr.TypeExpr.{TypeExpr, fold-TypeExpr, fold-roll-TypeExpr}
use Rattle.il_base.specs.declared.world_model.expr.TypeExpr.TheOpen.{TypeExpr-F}
use Rattle.il_base.specs.declared.world_model.expr.TypeExpr.TheVariants as expr
use Rattle.link_faults.specs.Values.{flagged, with_parts, held_layer, held_in}

module _ (values : List Bool) where
  pub held_prim : (n : ℕ) → held_in values (expr.Prim n) ≡ []
  unfolding held_in
  held_prim n = ap (fold-TypeExpr (List ℕ) (held_layer values)) (sym (expr.rolls-Prim n)) ∙ fold-roll-TypeExpr (List ℕ) (held_layer values) (TypeExpr-F.Prim n)

  pub held_def : (t : TypeId) → held_in values (expr.Def t) ≡ flagged values t.0
  unfolding held_in
  held_def t = ap (fold-TypeExpr (List ℕ) (held_layer values)) (sym (expr.rolls-Def t)) ∙ fold-roll-TypeExpr (List ℕ) (held_layer values) (TypeExpr-F.Def t)

  joined : (args : List TypeExpr) → flat_map (λ ids. ids) (map (held_in values) args) ≡ flat_map (held_in values) args
  joined [] = refl
  joined (e ∷ args) = ap (λ (ids : List ℕ). held_in values e ++ ids) (joined args)

  pub held_inst : (t : TypeId) (args : List TypeExpr) → held_in values (expr.Inst t args) ≡ with_parts (flagged values t.0) (flat_map (held_in values) args)
  unfolding held_in
  held_inst t args =
      ap (fold-TypeExpr (List ℕ) (held_layer values)) (sym (expr.rolls-Inst t args)) ∙ fold-roll-TypeExpr (List ℕ) (held_layer values) (TypeExpr-F.Inst t args)
      ∙ ap (with_parts (flagged values t.0)) (joined args)

  pub held_array : (e : TypeExpr) → held_in values (expr.Array e) ≡ []
  unfolding held_in
  held_array e = ap (fold-TypeExpr (List ℕ) (held_layer values)) (sym (expr.rolls-Array e)) ∙ fold-roll-TypeExpr (List ℕ) (held_layer values) (TypeExpr-F.Array e)

  pub held_by_ref : (e : TypeExpr) → held_in values (expr.ByRef e) ≡ []
  unfolding held_in
  held_by_ref e = ap (fold-TypeExpr (List ℕ) (held_layer values)) (sym (expr.rolls-ByRef e)) ∙ fold-roll-TypeExpr (List ℕ) (held_layer values) (TypeExpr-F.ByRef e)

  pub held_var : (n : ℕ) → held_in values (expr.Var n) ≡ []
  unfolding held_in
  held_var n = ap (fold-TypeExpr (List ℕ) (held_layer values)) (sym (expr.rolls-Var n)) ∙ fold-roll-TypeExpr (List ℕ) (held_layer values) (TypeExpr-F.Var n)

  pub held_mvar : (n : ℕ) → held_in values (expr.MVar n) ≡ []
  unfolding held_in
  held_mvar n = ap (fold-TypeExpr (List ℕ) (held_layer values)) (sym (expr.rolls-MVar n)) ∙ fold-roll-TypeExpr (List ℕ) (held_layer values) (TypeExpr-F.MVar n)

  pub held_mod : (required : Bool) (by : TypeId) (e : TypeExpr) → held_in values (expr.Mod required by e) ≡ held_in values e
  unfolding held_in
  held_mod required by e = ap (fold-TypeExpr (List ℕ) (held_layer values)) (sym (expr.rolls-Mod required by e)) ∙ fold-roll-TypeExpr (List ℕ) (held_layer values) (TypeExpr-F.Mod required by e)

-- the value types in a type, one level at a time
pub ruleset holding = (held_prim, held_def, held_inst, held_array, held_by_ref, held_var, held_mvar, held_mod)

-- ---- added to those that were found before

pub none_held : (held ids : List ℕ) → ids ≡ [] → held ≡ held ++ ids
none_held held ids e = sym (append-nil held) ∙ ap (λ (xs : List ℕ). held ++ xs) (sym e)

pub not_flagged : (values : List Bool) (id : ℕ) → false ≡ unwrap_or (slice_get values id) false → flagged values id ≡ []
not_flagged values id e = rw (← e) refl

pub inst_not_held : (values : List Bool) (t : TypeId) (args : List TypeExpr) → false ≡ unwrap_or (slice_get values t.0) false → held_in values (expr.Inst t args) ≡ []
inst_not_held values t args e = held_inst values t args ∙ ap (λ (ids : List ℕ). with_parts ids (flat_map (held_in values) args)) (not_flagged values t.0 e)

pub inst_held : (values : List Bool) (t : TypeId) (args now : List TypeExpr) (held one new : List ℕ) → true ≡ unwrap_or (slice_get values t.0) false → one ≡ held ++ t.0 ∷ []
    → now ≡ args → new ≡ one ++ flat_map (held_in values) now → new ≡ held ++ held_in values (expr.Inst t args)
inst_held values t args now held one new e f g h =
    h ∙ (λ i. f i ++ flat_map (held_in values) (g i)) ∙ append_assoc held (t.0 ∷ []) (flat_map (held_in values) args)
    ∙ ap (λ (xs : List ℕ). held ++ xs) (sym (held_inst values t args ∙ ap (λ (b : Bool). with_parts (if b then t.0 ∷ [] else []) (flat_map (held_in values) args)) (sym e)))
