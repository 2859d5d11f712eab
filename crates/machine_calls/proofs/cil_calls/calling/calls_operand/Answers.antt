use Rattle.std.proofs.Common.{sym, ap, ◌∙◌}
use Rattle.rules.specs.step_rules.Calls.{calls}
use Rattle.machine_words.specs.cil_words.Steps.{here_by}
use Rattle.machine_calls.specs.cil_invoking.Operands.{goes_with_operand}
use Rattle.machine_calls.proofs.lemmas.cil_calls.Opened.{by_operand}
use Rattle.machine_calls.proofs.cil_calls.calling.calls_operand.Goals as goal

pub returns-in_ok-out-in-Named : goal.returns-in_ok-out-in-Named
returns-in_ok-out-in-Named g c =
    let q = g.Q.Answers.queries c.args.q.now in
    let here = here_by c.args.body.now c.args.st.now in
    c.in_ok-out-in-Named.ensures ∙ sym (by_operand q here c.args.i.now c.args.st.now c.in_ok-c.field-0 c.in_ok-c.ensures ∙ ap (λ found. goes_with_operand found c.args.st.now (calls q here c.args.i.now c.args.st.now)) c.in-Named.is)

pub returns-in-Meaningless : goal.returns-in-Meaningless
returns-in-Meaningless g c =
    let q = g.Q.Answers.queries c.args.q.now in
    let here = here_by c.args.body.now c.args.st.now in
    rw c.stopped.ensures (sym (by_operand q here c.args.i.now c.args.st.now c.in_ok-c.field-0 c.in_ok-c.ensures ∙ ap (λ found. goes_with_operand found c.args.st.now (calls q here c.args.i.now c.args.st.now)) c.in-Meaningless.is))

pub returns-in-Another : goal.returns-in-Another
returns-in-Another g c =
    let q = g.Q.Answers.queries c.args.q.now in
    let here = here_by c.args.body.now c.args.st.now in
    rw c.stuck.ensures (sym (by_operand q here c.args.i.now c.args.st.now c.in_ok-c.field-0 c.in_ok-c.ensures ∙ ap (λ found. goes_with_operand found c.args.st.now (calls q here c.args.i.now c.args.st.now)) c.in-Another.is))
