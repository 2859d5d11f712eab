use Rattle.std.proofs.Common.{◌∷◌, sym, ap, ◌∙◌}
use Rattle.machine_numbers.specs.declared.cil_arithmetic.outcome.Outcome.{Outcome}
use Rattle.machine_words.specs.cil_words.Steps.{here_by}
use Rattle.machine_numbers.specs.cil_pointers.Reaching.{with_stack}
use Rattle.machine_numbers.specs.cil_numbers.Outcomes.{finished}
use Rattle.machine_numbers.proofs.cil_numbers.numbers.finish_one.Goals as goal

pub returns-in_ok-next-in-Gives : goal.returns-in_ok-next-in-Gives
returns-in_ok-next-in-Gives g c =
    let s = c.args.st.now in
    let whole = with_stack (c.args.v ∷ s.top.stack) s in
    c.in_ok-next-in-Gives.ensures (c.args.v ∷ s.top.stack)
    ∙ ap (λ (x : Outcome). finished (g.Q.Answers.queries c.args.q.now) (here_by c.args.body.now s) c.args.i.now s.top.stack whole x) (sym c.in-Gives.is)
