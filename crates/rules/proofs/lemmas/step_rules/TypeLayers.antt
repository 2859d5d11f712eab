-- Types without modifiers, and how they count, by their outermost construct.
use Rattle.std.proofs.Common.{◌≡◌, ℕ, Bool, Option, sym, ap, ◌∙◌}
use Rattle.il_base.specs.declared.ids.TypeId.{TypeId}
use Rattle.il_base.specs.declared.world_model.expr.TypeExpr.{TypeExpr, fold-TypeExpr, fold-roll-TypeExpr, out-TypeExpr}
use Rattle.il_base.specs.declared.world_model.expr.TypeExpr.TheOpen.{TypeExpr-F}
use Rattle.il_base.specs.declared.world_model.expr.TypeExpr.TheVariants as expr
use Rattle.il_base.specs.world_model.Exprs.{same_expr, same_in, same_layer}
use Rattle.il_base.proofs.lemmas.world_model.ExprLayers.{subst_prim, subst_def}
use Rattle.il_base.specs.declared.cil_values.definition.Head.{Head}
use Rattle.rules.specs.step_rules.Closing.{plain, plain_layer, Standing, standing, standing_layer}

abbrev both : TypeExpr → TypeExpr × TypeExpr
both = fold-TypeExpr (TypeExpr × TypeExpr) plain_layer

pub plain_prim : (n : ℕ) → plain (expr.Prim n) ≡ expr.Prim n
unfolding plain
plain_prim n = ap (λ x. x.1) (ap both (sym (expr.rolls-Prim n)) ∙ fold-roll-TypeExpr (TypeExpr × TypeExpr) plain_layer (TypeExpr-F.Prim n))

pub plain_def : (t : TypeId) → plain (expr.Def t) ≡ expr.Def t
unfolding plain
plain_def t = ap (λ x. x.1) (ap both (sym (expr.rolls-Def t)) ∙ fold-roll-TypeExpr (TypeExpr × TypeExpr) plain_layer (TypeExpr-F.Def t))

module _ (heads : ℕ → Option Head) where
  pub standing_prim : (n : ℕ) → standing heads (expr.Prim n) ≡ standing_layer heads (TypeExpr-F.Prim n)
  unfolding standing
  standing_prim n = ap (fold-TypeExpr Standing (standing_layer heads)) (sym (expr.rolls-Prim n)) ∙ fold-roll-TypeExpr Standing (standing_layer heads) (TypeExpr-F.Prim n)

  pub standing_def : (t : TypeId) → standing heads (expr.Def t) ≡ standing_layer heads (TypeExpr-F.Def t)
  unfolding standing
  standing_def t = ap (fold-TypeExpr Standing (standing_layer heads)) (sym (expr.rolls-Def t)) ∙ fold-roll-TypeExpr Standing (standing_layer heads) (TypeExpr-F.Def t)

abbrev test : TypeExpr → TypeExpr → Bool
test = fold-TypeExpr (TypeExpr → Bool) same_layer

-- the test for equality by the first type's outermost construct
pub same_prim : (n : ℕ) (b : TypeExpr) → same_expr (expr.Prim n) b ≡ same_in (TypeExpr-F.Prim n) (out-TypeExpr b)
unfolding same_expr
same_prim n b = ap (λ (f : TypeExpr → Bool). f b) (ap test (sym (expr.rolls-Prim n)) ∙ fold-roll-TypeExpr (TypeExpr → Bool) same_layer (TypeExpr-F.Prim n))

pub same_def : (t : TypeId) (b : TypeExpr) → same_expr (expr.Def t) b ≡ same_in (TypeExpr-F.Def t) (out-TypeExpr b)
unfolding same_expr
same_def t b = ap (λ (f : TypeExpr → Bool). f b) (ap test (sym (expr.rolls-Def t)) ∙ fold-roll-TypeExpr (TypeExpr → Bool) same_layer (TypeExpr-F.Def t))

-- primitives and definitions, which is all that the examples have
pub ruleset laying = (subst_prim, subst_def, plain_prim, plain_def, standing_prim, standing_def, same_prim, same_def)
