-- What is folded over a primitive or a definition, which is all that the examples have.
use Rattle.std.proofs.Common.{◌≡◌, ℕ, Bool, sym, ap, ◌∙◌}
use Rattle.il_base.specs.declared.ids.TypeId.{TypeId}
use Rattle.il_base.specs.declared.sig.Sig.{fold-Sig, fold-roll-Sig}
use Rattle.il_base.specs.declared.sig.Sig.TheOpen.{Sig-F}
use Rattle.il_base.specs.declared.sig.Sig.TheVariants as sig
use Rattle.il_base.specs.declared.world_model.expr.TypeExpr.{fold-TypeExpr, fold-roll-TypeExpr}
use Rattle.il_base.proofs.lemmas.world_model.ExprLayers.{subst_prim, subst_def}
use Rattle.rules.proofs.lemmas.step_rules.TypeLayers.{plain_prim, plain_def, standing_prim, standing_def}
use Rattle.il_base.specs.declared.world_model.expr.TypeExpr.TheOpen.{TypeExpr-F}
use Rattle.il_base.specs.declared.world_model.expr.TypeExpr.TheVariants as expr

pub sig_prim : (A : Type 0) (f : Sig-F A → A) (n : ℕ) → fold-Sig A f (sig.Prim n) ≡ f (Sig-F.Prim n)
sig_prim A f n = ap (fold-Sig A f) (sym (sig.rolls-Prim n)) ∙ fold-roll-Sig A f (Sig-F.Prim n)

pub sig_named : (A : Type 0) (f : Sig-F A → A) (v : Bool) (n : ℕ) → fold-Sig A f (sig.Named v n) ≡ f (Sig-F.Named v n)
sig_named A f v n = ap (fold-Sig A f) (sym (sig.rolls-Named v n)) ∙ fold-roll-Sig A f (Sig-F.Named v n)

pub expr_prim : (A : Type 0) (f : TypeExpr-F A → A) (n : ℕ) → fold-TypeExpr A f (expr.Prim n) ≡ f (TypeExpr-F.Prim n)
expr_prim A f n = ap (fold-TypeExpr A f) (sym (expr.rolls-Prim n)) ∙ fold-roll-TypeExpr A f (TypeExpr-F.Prim n)

pub expr_def : (A : Type 0) (f : TypeExpr-F A → A) (t : TypeId) → fold-TypeExpr A f (expr.Def t) ≡ f (TypeExpr-F.Def t)
expr_def A f t = ap (fold-TypeExpr A f) (sym (expr.rolls-Def t)) ∙ fold-roll-TypeExpr A f (TypeExpr-F.Def t)

pub ruleset laying = (sig_prim, sig_named, subst_prim, subst_def, plain_prim, plain_def, standing_prim, standing_def)
