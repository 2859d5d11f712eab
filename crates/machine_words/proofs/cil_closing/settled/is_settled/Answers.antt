use Rattle.std.proofs.Common.{List, subst}
use Rattle.il_base.specs.declared.world_model.expr.TypeExpr.{TypeExpr}
use Rattle.machine_words.specs.cil_closing.Settled.{SettledSlots}
use Rattle.machine_words.proofs.lemmas.cil_closing.Settled.{signature_is}
use Rattle.machine_words.proofs.cil_closing.settled.is_settled.Goals as goal

pub returns-then-is_settled_return : goal.returns-then-is_settled_return
returns-then-is_settled_return g c =
    let q = g.Q.Answers.queries c.args.q.now in
    λ h. signature_is q c.args.sig.now (c.is_settled_return.ensures c.if-is_settled_return.true)
    (subst (λ (es : List TypeExpr). SettledSlots q es) c.as_slice.ensures (c.are_settled.ensures h))
