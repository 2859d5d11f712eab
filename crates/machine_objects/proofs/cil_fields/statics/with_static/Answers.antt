use Rattle.std.proofs.Common.{sym, ◌∙◌}
use Rattle.machine_words.specs.cil_closing.Callees.{accessed_by}
use Rattle.machine_objects.proofs.lemmas.cil_fields.ReadyFields.{ready_not}
use Rattle.machine_objects.proofs.cil_fields.statics.with_static.Goals as goal

pub returns-in-None : goal.returns-in-None
returns-in-None g c = ready_not (g.Q.Answers.queries c.args.q.now) (accessed_by c.args.a.now) c.args.st.now c.args.st.now c.stopped.result (sym c.in_ok-found.ensures ∙ c.in-None.is) c.stopped.ensures

pub returns-in_ok-ready-in-Some : goal.returns-in_ok-ready-in-Some
returns-in_ok-ready-in-Some g c = c.in_ok-ready-in-Some.ensures (sym c.in_ok-found.ensures ∙ c.in-Some.is)
