use Rattle.machine_words.specs.cil_closing.Callees.{accessed_by}
use Rattle.cil_reflect.proofs.lemmas.Plain.{ready_plain}
use Rattle.cil_reflect.proofs.fields.readied.Goals as goal

pub returns : goal.returns
returns g c = ready_plain (g.Q.Answers.queries c.args.q.now) (accessed_by c.args.a.now) c.args.st.now c.with_static.new.st c.in_ok-x.x c.in_ok-x.ensures
