use Rattle.std.proofs.Common.{◌≡◌, ◌∙◌, ◌∷◌, []}
use Rattle.rules.specs.step_rules.CoreInvoking.{invocable}
use Rattle.rules.specs.step_rules.Core.{calls_for, calls_method}
use Rattle.cil_reflect.specs.Aims.{named_next}
use Rattle.cil_core.specs.cil_members.Outs.{gives_by}
use Rattle.cil_reflect.proofs.invoking.calls_for.Goals as goal

pub returns : goal.returns
unfolding calls_for
returns g c give =
    let q = g.Q.Answers.queries c.args.q.now in
    let s = c.args.st.now in
    let goes : named_next c.in_ok-x.x q s (λ u. invocable q u s (calls_method q c.args.member (c.args.v.now ∷ []) c.args.back.now c.args.target.now c.args.args.now s give)) ≡ gives_by c.in_ok-out.out c.calls_by.new.st c.calls_by.new.printed.items give =
    (rw c.in_ok-keep.ensures at c.in_ok-out.ensures) give in
    c.in_ok-x.ensures (λ u. invocable q u s (calls_method q c.args.member (c.args.v.now ∷ []) c.args.back.now c.args.target.now c.args.args.now s give)) ∙ goes
