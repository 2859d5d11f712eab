use Rattle.machine_words.specs.cil_words.Steps.{here_by}
use Rattle.machine_numbers.proofs.lemmas.cil_pointers.Popping.{popped_one}
use Rattle.machine_words.specs.cil_closing.Callees.{accessed_by}
use Rattle.rules.specs.step_rules.Fields.{load_with}
use Rattle.machine_objects.proofs.cil_fields.forms.load_popped.Goals as goal

pub returns : goal.returns
returns g c =
    let s = c.args.st.now in
    popped_one s (λ r stack x. load_with (g.Q.Answers.queries c.args.q.now) (here_by c.args.body.now s) c.args.i.now (accessed_by c.args.a.now) r stack x) c.in-Some.r _ _ c.in-Some.ensures c.in_ok-out.ensures
