use Rattle.machine_words.specs.cil_words.Steps.{here_by}
use Rattle.machine_numbers.proofs.lemmas.cil_numbers.Outcomes.{unary_from}
use Rattle.machine_numbers.proofs.cil_numbers.numbers.unary.Goals as goal

pub returns : goal.returns
returns c = λ q.
    unary_from q (here_by c.args.body.now c.args.st.now) c.args.i.now c.args.st.now c.in-Some.v _ _ c.in-Some.ensures c.in_ok-out.ensures
