use Rattle.std.proofs.Common.{◌∷◌, ◌∙◌}
use Rattle.machine_words.specs.cil_words.Steps.{here_by}
use Rattle.machine_numbers.proofs.lemmas.cil_pointers.AnyStack.{gave}
use Rattle.machine_numbers.proofs.cil_pointers.apart.gives.Goals as goal

pub returns : goal.returns
returns c = λ vs.
    c.goes.ensures
    ∙ gave (here_by c.args.body.now c.args.st.now) c.args.i.now c.args.st.now _ (c.args.v ∷ c.args.st.now.top.stack) vs c.in_ok-push.ensures.ok
