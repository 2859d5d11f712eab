use Rattle.std.proofs.Common.{◌∙◌}
use Rattle.rules.specs.step_rules.Words.{had}
use Rattle.rules.specs.step_rules.Places.{global_of}
use Rattle.rules.specs.step_rules.CoreWords.{gives_boxed}
use Rattle.cil_reflect.proofs.fields.gives_static.Goals as goal

pub returns : goal.returns
returns g c give =
    let q = g.Q.Answers.queries c.args.q.now in
    c.in_ok-x.ensures (λ e t. had (global_of t c.args.a.now.id c.args.a.now.owner) t (λ v. gives_boxed q e v t give)) ∙ c.in_ok-out.ensures give
