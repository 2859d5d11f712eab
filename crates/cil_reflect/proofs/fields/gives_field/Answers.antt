use Rattle.std.proofs.Common.{◌∙◌}
use Rattle.rules.specs.step_rules.CoreWords.{gives_boxed}
use Rattle.cil_reflect.proofs.fields.gives_field.Goals as goal

pub returns : goal.returns
returns g c give =
    let q = g.Q.Answers.queries c.args.q.now in
    c.in_ok-x.ensures (λ p v. gives_boxed q p.of v c.args.st.now give) ∙ c.in_ok-out.ensures give
