use Rattle.std.proofs.Common.{sym, ◌∙◌}
use Rattle.machine_words.specs.cil_words.Steps.{here_by}
use Rattle.machine_numbers.proofs.lemmas.cil_numbers.Outcomes.{binary_from}
use Rattle.machine_numbers.proofs.cil_numbers.numbers.binary.Goals as goal

pub returns : goal.returns
returns g c =
    c.in_ok-out.ensures ∙ sym (binary_from _ (here_by c.args.body.now c.args.st.now) c.args.i.now c.args.st.now c.in-Some-pop.a c.in-Some.b _ _ c.in-Some.ensures c.in-Some-pop.ensures)
