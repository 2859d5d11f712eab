use Rattle.machine_words.specs.cil_words.Steps.{here_by}
use Rattle.machine_numbers.proofs.lemmas.cil_pointers.Popping.{popped_one}
use Rattle.machine_words.specs.cil_stores.Accesses.{access_in}
use Rattle.cil_indirect.specs.Accessing.{load_over}
use Rattle.cil_indirect.proofs.loading.load_by.Goals as goal

pub returns : goal.returns
returns g c =
    let s = c.args.st.now in
    popped_one s (λ r stack x. load_over (g.Q.Answers.queries c.args.q.now) (here_by c.args.body.now s) c.args.i.now (access_in c.args.a.now) r stack x) c.in-Some.r _ _ c.in-Some.ensures c.in_ok-out.ensures
