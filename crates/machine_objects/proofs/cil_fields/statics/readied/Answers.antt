use Rattle.machine_words.specs.cil_closing.Callees.{accessed_by}
use Rattle.machine_objects.proofs.lemmas.cil_fields.ReadyFields.{ready_on, ready_over}
use Rattle.machine_objects.proofs.cil_fields.statics.readied.Goals as goal

pub returns-in-None : goal.returns-in-None
returns-in-None g c = λ typ. ready_on (g.Q.Answers.queries c.args.q.now) (accessed_by c.args.a.now) c.args.st.now c.begun_static.new.st c.args.ty c.in_ok-begun.begun typ c.in-None.is c.in_ok-begun.ensures

pub returns-in-Some : goal.returns-in-Some
returns-in-Some g c = λ typ. ready_over (g.Q.Answers.queries c.args.q.now) (accessed_by c.args.a.now) c.args.st.now c.begun_static.new.st c.args.ty c.in_ok-begun.begun c.in-Some.out typ c.in-Some.is c.in_ok-begun.ensures
