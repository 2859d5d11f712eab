use Rattle.std.proofs.Common.{◌∙◌, ap}
use Rattle.il_base.specs.declared.cil_values.value.Value.{Value}
use Rattle.rules.specs.step_rules.Words.{given}
use Rattle.rules.specs.step_rules.Stores.{fits}
use Rattle.rules.specs.step_rules.Places.{put_at}
use Rattle.rules.specs.step_rules.CoreWords.{gives_nothing}
use Rattle.rules.specs.step_rules.CoreInvoking.{Taken, by_taken}
use Rattle.cil_reflect.proofs.fields.fills_field.Goals as goal

pub returns : goal.returns
returns g c give =
    let q = g.Q.Answers.queries c.args.q.now in
    ap (λ (t : Taken Value). by_taken q c.args.st.now t (λ w. given (fits q c.args.p.now.of w) c.args.st.now (λ kept. put_at q c.args.p.now kept c.args.st.now (λ t. gives_nothing t give)))) c.in_ok-kept.ensures ∙ c.in_ok-out.ensures give
