use Rattle.std.proofs.Common.{◌≡◌, [], subst}
use Rattle.std.specs.Prelude.{IfOk}
use Rattle.rules.specs.step_rules.Next.{Next}
use Rattle.machine_words.specs.cil_words.Steps.{next_of, here_by}
use Rattle.machine_objects.proofs.lemmas.cil_arrays.Naturals.{new_tells}
use Rattle.machine_objects.proofs.cil_arrays.making.new_with.Goals as goal

pub returns : goal.returns
returns g c =
    subst (λ (x : Next). IfOk c.made_by.result (λ out. next_of out c.made_by.new.st [] ≡ x))
    (new_tells (g.Q.Answers.queries c.args.q.now) (here_by c.args.body.now c.args.st.now) c.args.i.now c.args.st.now c.args.ty c.args.zero _ _ _
    c.in-Some.ensures c.length_found-n.ensures) c.made_by.ensures
