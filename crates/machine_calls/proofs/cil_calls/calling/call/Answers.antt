use Rattle.std.proofs.Common.{refl, sym, ap, ◌∙◌}
use Rattle.rules.specs.step_rules.Words.{ends_at}
use Rattle.machine_words.specs.cil_words.Steps.{here_by}
use Rattle.machine_calls.proofs.lemmas.cil_calls.Opened.{opened}
use Rattle.machine_calls.proofs.cil_calls.calling.call.Goals as goal

pub returns : goal.returns
returns g c =
    let q = g.Q.Answers.queries c.args.q.now in
    let here = here_by c.args.body.now c.args.st.now in
    c.placed.ensures c.args.st.now c.calls_operand.new.st c.calls_operand.new.printed.items refl refl
    ∙ ap (ends_at c.args.st.now) c.in_ok-out.ensures
    ∙ sym (opened q here c.args.i.now c.args.st.now)
