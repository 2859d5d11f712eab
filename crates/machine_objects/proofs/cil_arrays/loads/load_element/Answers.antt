use Rattle.machine_words.specs.cil_stores.Accesses.{access_in}
use Rattle.machine_objects.proofs.lemmas.cil_arrays.Telling.{load_none, load_one, load_tells, load_refused}
use Rattle.machine_objects.proofs.cil_arrays.loads.load_element.Goals as goal

pub returns-in_default : goal.returns-in_default
returns-in_default g c = λ here i. load_none (g.Q.Answers.queries c.args.q.now) here i c.args.st.now _ (access_in c.args.access.now) c.in_default.ensures

pub returns-in_default-next_operand : goal.returns-in_default-next_operand
returns-in_default-next_operand g c = λ here i.
    load_one (g.Q.Answers.queries c.args.q.now) here i c.args.st.now _ _ _ c.in-Some.ensures (access_in c.args.access.now) c.in_default-next_operand.ensures

pub returns-in-Ok : goal.returns-in-Ok
returns-in-Ok g c =
    load_tells c.args.st.now _ _ c.in-Ok.ensures.0 _ _ _ c.in-Some.ensures c.in-Some-next_operand.ensures
    (g.Q.Answers.queries c.args.q.now) (access_in c.args.access.now) _ c.load_found.ensures

pub returns-in-Err : goal.returns-in-Err
returns-in-Err g c = λ here i.
    load_refused c.args.st.now _ c.in-Err.why c.in-Err.ensures (g.Q.Answers.queries c.args.q.now) here i _ _ _ _
    c.in-Some.ensures c.in-Some-next_operand.ensures (access_in c.args.access.now)
