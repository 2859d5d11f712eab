use Rattle.rules.specs.step_rules.Next.{went}
use Rattle.rules.specs.step_rules.Words.{stuck}
use Rattle.machine_calls.proofs.lemmas.cil_returns.Callers.{back_with}
use Rattle.machine_calls.proofs.cil_returns.back.gives_to.Goals as goal

pub returns-then-not-goes_back : goal.returns-then-not-goes_back
returns-then-not-goes_back g c =
    λ s is bytes. rw is (back_with (g.Q.Answers.queries c.args.q.now) s c.args.st.now c.set_top.new.st c.args.f c.args.v c.push_result.new.stack bytes (stuck s) c.set_top.ensures c.in_ok-push_result.ensures (c.if-not-goes_back.ensures s bytes))

pub returns : goal.returns
returns g c =
    λ s is bytes. back_with (g.Q.Answers.queries c.args.q.now) s c.args.st.now c.set_top.new.st c.args.f c.args.v c.push_result.new.stack bytes (went c.goes_back.new.st bytes) c.set_top.ensures c.in_ok-push_result.ensures (c.if-not-goes_back.ensures s bytes)
