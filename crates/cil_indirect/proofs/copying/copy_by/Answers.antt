use Rattle.machine_words.specs.cil_words.Steps.{here_by}
use Rattle.machine_numbers.proofs.lemmas.cil_pointers.Popping.{popped_two}
use Rattle.machine_words.specs.cil_stores.Accesses.{access_in}
use Rattle.cil_indirect.specs.Accessing.{copy_over}
use Rattle.cil_indirect.proofs.copying.copy_by.Goals as goal

pub returns : goal.returns
returns g c =
    let s = c.args.st.now in
    popped_two s (λ from to stack x. copy_over (g.Q.Answers.queries c.args.q.now) (here_by c.args.body.now s) c.args.i.now (access_in c.args.a.now) to from stack x) c.in-Some.from c.in-Some-pop.to _ _ _ c.in-Some.ensures c.in-Some-pop.ensures c.in_ok-out.ensures
