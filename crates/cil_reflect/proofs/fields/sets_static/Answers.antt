use Rattle.std.proofs.Common.{◌∙◌}
use Rattle.rules.specs.step_rules.Words.{given}
use Rattle.rules.specs.step_rules.Stores.{fits}
use Rattle.rules.specs.step_rules.Places.{with_global}
use Rattle.rules.specs.step_rules.CoreWords.{gives_nothing}
use Rattle.cil_reflect.proofs.fields.sets_static.Goals as goal

pub returns : goal.returns
returns g c give =
    let q = g.Q.Answers.queries c.args.q.now in
    c.in_ok-x.ensures (λ e t. given (fits q e c.args.w) t (λ kept. gives_nothing (with_global c.args.a.now.id c.args.a.now.owner kept t) give)) ∙ c.in_ok-out.ensures give
