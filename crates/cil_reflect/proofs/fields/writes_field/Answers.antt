use Rattle.std.proofs.Common.{◌∙◌}
use Rattle.rules.specs.step_rules.Words.{given}
use Rattle.rules.specs.step_rules.Stores.{fits}
use Rattle.rules.specs.step_rules.Places.{put_at}
use Rattle.rules.specs.step_rules.CoreWords.{gives_nothing}
use Rattle.rules.specs.step_rules.CoreFields.{with_value}
use Rattle.cil_reflect.proofs.fields.writes_field.Goals as goal

pub returns : goal.returns
returns g c give =
    let q = g.Q.Answers.queries c.args.q.now in
    c.in_ok-x.ensures (λ p old. with_value q p.of c.args.v.now c.args.st.now (λ w. given (fits q p.of w) c.args.st.now (λ kept. put_at q p kept c.args.st.now (λ t. gives_nothing t give)))) ∙ c.in_ok-out.ensures give
