use Rattle.std.proofs.Common.{[], refl, sym, ap, ◌∙◌}
use Rattle.il_base.specs.declared.cil_values.state.State.{State}
use Rattle.rules.specs.step_rules.Words.{stopped}
use Rattle.machine_words.specs.cil_words.Steps.{here_by, next_of}
use Rattle.machine_words.specs.declared.cil_words.step_out.StepOut.{StepOut}
use Rattle.machine_numbers.proofs.lemmas.cil_pointers.AnyStack.{put_goes, put_stops, was_put, wasnt_put}
use Rattle.machine_numbers.proofs.cil_pointers.apart.puts_at.Goals as goal

pub returns-then-done : goal.returns-then-done
returns-then-done g c = λ vs.
    let q = g.Q.Answers.queries c.args.q.now in
    let s = c.args.st.now in
    let t = c.put_place.new.st in
    c.goes.ensures
    ∙ put_goes q (here_by c.args.body.now t) (here_by c.args.body.now s) c.args.i.now s t vs c.args.p.now c.args.v refl (was_put q s t c.args.p.now c.args.v c.in_ok-done.done c.in_ok-done.ensures c.if-done.true)

pub returns-else-done : goal.returns-else-done
returns-else-done g c = λ vs.
    let q = g.Q.Answers.queries c.args.q.now in
    let s = c.args.st.now in
    let t = c.put_place.new.st in
    let none = wasnt_put q s t c.args.p.now c.args.v c.in_ok-done.done c.in_ok-done.ensures c.if-done.false in
    ap (λ (out : StepOut). next_of out t []) c.stopped.ensures
    ∙ ap (λ (x : State). stopped x) none.1
    ∙ put_stops q (here_by c.args.body.now s) c.args.i.now s vs c.args.p.now c.args.v none.0
