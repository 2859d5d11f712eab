-- Instructions with a type as their operand.
use Rattle.std.proofs.Common.{◌≡◌, ◌∙◌, sym, ap, List}
use Rattle.std.specs.Prelude.{Option, Some}
use Rattle.il_base.specs.declared.world_model.expr.TypeExpr.{TypeExpr}
use Rattle.il_base.specs.declared.world_model.known.Known.{Known}
use Rattle.il_base.specs.declared.world_model.known.Known.TheVariants.{Good}
use Rattle.il_base.specs.declared.cil_values.state.State.{State}
use Rattle.rules.specs.step_rules.Queries.{Queries}
use Rattle.rules.specs.step_rules.Next.{Next}
use Rattle.rules.specs.step_rules.Words.{Here, had}
use Rattle.rules.specs.step_rules.Closing.{closed, closed_slot}

pub with_type : (q : Queries) (here : Here) (s : State) (k : Known TypeExpr) (f : TypeExpr → Next) (e c : TypeExpr) (targs margs : List TypeExpr) (found : Option TypeExpr)
    → k ≡ Good e → targs ≡ here.targs → margs ≡ here.margs → found ≡ closed_slot q targs margs e → found ≡ Some c → f c ≡ closed q here k s f
unfolding closed
with_type q here s k f e c targs margs found good t m closes some =
    ap (λ (o : Option TypeExpr). had o s f)
    (sym some ∙ closes ∙ ap (λ (x : List TypeExpr). closed_slot q x margs e) t ∙ ap (λ (x : List TypeExpr). closed_slot q here.targs x e) m)
    ∙ sym (ap (λ (x : Known TypeExpr). closed q here x s f) good)
