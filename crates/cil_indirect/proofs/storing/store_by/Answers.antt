use Rattle.machine_words.specs.cil_words.Steps.{here_by}
use Rattle.machine_numbers.proofs.lemmas.cil_pointers.Popping.{popped_two}
use Rattle.machine_words.specs.cil_stores.Accesses.{access_in}
use Rattle.cil_indirect.specs.Accessing.{store_over}
use Rattle.cil_indirect.proofs.storing.store_by.Goals as goal

pub returns : goal.returns
returns g c =
    let s = c.args.st.now in
    popped_two s (λ v r stack x. store_over (g.Q.Answers.queries c.args.q.now) (here_by c.args.body.now s) c.args.i.now (access_in c.args.a.now) r v stack x) c.in-Some.v c.in-Some-pop.r _ _ _ c.in-Some.ensures c.in-Some-pop.ensures c.in_ok-out.ensures
