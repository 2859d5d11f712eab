use Rattle.cil_core.proofs.lemmas.cil_exceptions.Held.{put_back}
use Rattle.cil_core.proofs.cil_exceptions.cells.put_at.Goals as goal

pub returns : goal.returns
returns g c =
    put_back c.put_in-done.result (g.Q.Answers.queries c.args.q.now) c.args.cell c.args.v.now c.args.heap.now c.replace-o.new.self c.set.new.self c.args.at _
    c.replace-o.result c.put_in-done.new.o c.replace-o.ensures.taken c.replace-o.ensures.rest c.set.ensures c.put_in-done.ensures
