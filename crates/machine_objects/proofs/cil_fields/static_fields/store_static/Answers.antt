use Rattle.machine_words.specs.cil_closing.Callees.{accessed_by}
use Rattle.machine_objects.proofs.lemmas.cil_fields.ReadyFields.{store_over, store_ready}
use Rattle.machine_objects.proofs.cil_fields.static_fields.store_static.Goals as goal

pub returns-in-Over : goal.returns-in-Over
returns-in-Over g c = λ vs.
    store_over (g.Q.Answers.queries c.args.q.now) c.args.body.now c.args.i.now (accessed_by c.args.a.now) c.args.st.now c.with_static.new.st c.in_ok-ready.ready c.in_ok-ready.ensures vs c.args.v c.in-Over.out c.in-Over.is

pub returns-in_ok-out-in-Is : goal.returns-in_ok-out-in-Is
returns-in_ok-out-in-Is g c = λ vs.
    store_ready (g.Q.Answers.queries c.args.q.now) c.args.body.now c.args.i.now (accessed_by c.args.a.now) c.args.st.now c.with_static.new.st c.in_ok-ready.ready c.in_ok-ready.ensures vs c.args.v _ c.in-Is.ty c.in-Is.is (c.in_ok-out-in-Is.ensures vs)
