-- The definition that an instruction shows, by the outermost construct of its type.
use Rattle.std.proofs.Common.{◌≡◌, ℕ, ◌++◌, Bool, List, [], ◌∷◌, map, refl, sym, ap, ◌∙◌, append_assoc}
use Rattle.std.proofs.lemmas.List.{append-nil}
use Rattle.il_base.specs.declared.ids.TypeId.{TypeId}
use Rattle.il_base.specs.declared.world_model.expr.TypeExpr.{TypeExpr, fold-TypeExpr, fold-roll-TypeExpr}
use Rattle.il_base.specs.declared.world_model.expr.TypeExpr.TheOpen.{TypeExpr-F}
use Rattle.il_base.specs.declared.world_model.expr.TypeExpr.TheVariants as expr
use Rattle.rules.specs.mark_rules.Facts.{Fact}
use Rattle.rules.specs.mark_rules.Facts.Fact.{shown}
use Rattle.rules.specs.mark_rules.Shown.{shown_layer, definitions_in}

defined_prim : (n : ℕ) → definitions_in (expr.Prim n) ≡ []
unfolding definitions_in
defined_prim n = ap (fold-TypeExpr (List TypeId) shown_layer) (sym (expr.rolls-Prim n)) ∙ fold-roll-TypeExpr (List TypeId) shown_layer (TypeExpr-F.Prim n)

defined_def : (t : TypeId) → definitions_in (expr.Def t) ≡ t ∷ []
unfolding definitions_in
defined_def t = ap (fold-TypeExpr (List TypeId) shown_layer) (sym (expr.rolls-Def t)) ∙ fold-roll-TypeExpr (List TypeId) shown_layer (TypeExpr-F.Def t)

defined_inst : (t : TypeId) (args : List TypeExpr) → definitions_in (expr.Inst t args) ≡ t ∷ []
unfolding definitions_in
defined_inst t args = ap (fold-TypeExpr (List TypeId) shown_layer) (sym (expr.rolls-Inst t args)) ∙ fold-roll-TypeExpr (List TypeId) shown_layer (TypeExpr-F.Inst t args)

defined_array : (e : TypeExpr) → definitions_in (expr.Array e) ≡ definitions_in e
unfolding definitions_in
defined_array e = ap (fold-TypeExpr (List TypeId) shown_layer) (sym (expr.rolls-Array e)) ∙ fold-roll-TypeExpr (List TypeId) shown_layer (TypeExpr-F.Array e)

defined_by_ref : (e : TypeExpr) → definitions_in (expr.ByRef e) ≡ definitions_in e
unfolding definitions_in
defined_by_ref e = ap (fold-TypeExpr (List TypeId) shown_layer) (sym (expr.rolls-ByRef e)) ∙ fold-roll-TypeExpr (List TypeId) shown_layer (TypeExpr-F.ByRef e)

defined_var : (n : ℕ) → definitions_in (expr.Var n) ≡ []
unfolding definitions_in
defined_var n = ap (fold-TypeExpr (List TypeId) shown_layer) (sym (expr.rolls-Var n)) ∙ fold-roll-TypeExpr (List TypeId) shown_layer (TypeExpr-F.Var n)

defined_mvar : (n : ℕ) → definitions_in (expr.MVar n) ≡ []
unfolding definitions_in
defined_mvar n = ap (fold-TypeExpr (List TypeId) shown_layer) (sym (expr.rolls-MVar n)) ∙ fold-roll-TypeExpr (List TypeId) shown_layer (TypeExpr-F.MVar n)

defined_mod : (required : Bool) (by : TypeId) (e : TypeExpr) → definitions_in (expr.Mod required by e) ≡ by ∷ definitions_in e
unfolding definitions_in
defined_mod required by e = ap (fold-TypeExpr (List TypeId) shown_layer) (sym (expr.rolls-Mod required by e)) ∙ fold-roll-TypeExpr (List TypeId) shown_layer (TypeExpr-F.Mod required by e)

module _ (out : List Fact) where
  pub show_prim : (n : ℕ) → out ++ map shown (definitions_in (expr.Prim n)) ≡ out
  show_prim n = rw (defined_prim n) (append-nil out)

  pub show_def : (t : TypeId) → out ++ map shown (definitions_in (expr.Def t)) ≡ out ++ shown t ∷ []
  show_def t = rw (defined_def t) refl

  pub show_inst : (t : TypeId) (args : List TypeExpr) → out ++ map shown (definitions_in (expr.Inst t args)) ≡ out ++ shown t ∷ []
  show_inst t args = rw (defined_inst t args) refl

  pub show_array : (e : TypeExpr) → out ++ map shown (definitions_in (expr.Array e)) ≡ out ++ map shown (definitions_in e)
  show_array e = rw (defined_array e) refl

  pub show_by_ref : (e : TypeExpr) → out ++ map shown (definitions_in (expr.ByRef e)) ≡ out ++ map shown (definitions_in e)
  show_by_ref e = rw (defined_by_ref e) refl

  pub show_var : (n : ℕ) → out ++ map shown (definitions_in (expr.Var n)) ≡ out
  show_var n = rw (defined_var n) (append-nil out)

  pub show_mvar : (n : ℕ) → out ++ map shown (definitions_in (expr.MVar n)) ≡ out
  show_mvar n = rw (defined_mvar n) (append-nil out)

  pub show_mod : (required : Bool) (by : TypeId) (e : TypeExpr) → out ++ map shown (definitions_in (expr.Mod required by e)) ≡ (out ++ shown by ∷ []) ++ map shown (definitions_in e)
  show_mod required by e = rw (defined_mod required by e) (sym (append_assoc out (shown by ∷ []) (map shown (definitions_in e))))

-- what is shown at the end, one level of a type at a time
pub ruleset defining = (show_prim, show_def, show_inst, show_array, show_by_ref, show_var, show_mvar, show_mod)
