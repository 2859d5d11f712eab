use Rattle.machine_words.proofs.lemmas.cil_places.Held.{put_back}
use Rattle.machine_words.proofs.cil_places.objects.put_in_object.Goals as goal

pub returns : goal.returns
returns g c =
    put_back c.put_part-done.result (g.Q.Answers.queries c.args.q.now) c.args.part c.args.v.now c.args.heap.now c.replace-o.new.self c.set.new.self c.args.at _
    c.replace-o.result c.put_part-done.new.o c.replace-o.ensures.taken c.replace-o.ensures.rest c.set.ensures c.put_part-done.ensures
