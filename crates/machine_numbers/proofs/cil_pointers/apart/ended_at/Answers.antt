use Rattle.std.proofs.Common.{sym, ◌∙◌}
use Rattle.machine_numbers.proofs.lemmas.cil_pointers.AnyStack.{ended_apart}
use Rattle.machine_numbers.proofs.cil_pointers.apart.ended_at.Goals as goal

pub returns : goal.returns
returns c = λ vs. ended_apart c.args.st.now vs c.args.p.now ∙ sym c.has_ended.ensures
