-- A type of an operand, closed.
use Rattle.std.proofs.Common.{◌≡◌, ◌∙◌, sym, ap, List}
use Rattle.std.specs.Prelude.{Option, Some}
use Rattle.il_base.specs.declared.world_model.known.Known.{Known}
use Rattle.il_base.specs.declared.world_model.known.Known.TheVariants.{Good}
use Rattle.il_base.specs.declared.world_model.expr.TypeExpr.{TypeExpr}
use Rattle.il_base.specs.declared.cil_values.state.State.{State}
use Rattle.rules.specs.step_rules.Queries.{Queries}
use Rattle.rules.specs.step_rules.Next.{Next}
use Rattle.rules.specs.step_rules.Words.{Here, had, known}
use Rattle.rules.specs.step_rules.Closing.{closed, closed_slot}

pub closed_by : (q : Queries) (here : Here) (s : State) (ty : Known TypeExpr) (open_type e : TypeExpr) (targs margs : List TypeExpr) (found : Option TypeExpr) (f : TypeExpr → Next) (n : Next)
    → ty ≡ Good open_type → targs ≡ here.targs → margs ≡ here.margs → found ≡ closed_slot q targs margs open_type → found ≡ Some e → n ≡ f e → n ≡ closed q here ty s f
unfolding closed
closed_by q here s ty open_type e targs margs found f n is t m slot some on =
    let there : closed_slot q here.targs here.margs open_type ≡ Some e =
    ap (λ (x : List TypeExpr). closed_slot q x here.margs open_type) (sym t) ∙ ap (λ (x : List TypeExpr). closed_slot q targs x open_type) (sym m) ∙ sym slot ∙ some in
    on ∙ sym (ap (λ (k : Known TypeExpr). known k s (λ x. had (closed_slot q here.targs here.margs x) s f)) is ∙ ap (λ (o : Option TypeExpr). had o s f) there)
