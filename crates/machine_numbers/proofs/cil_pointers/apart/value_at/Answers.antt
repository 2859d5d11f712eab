use Rattle.std.proofs.Common.{sym, ◌∙◌}
use Rattle.machine_numbers.proofs.lemmas.cil_pointers.AnyStack.{place_apart}
use Rattle.machine_numbers.proofs.cil_pointers.apart.value_at.Goals as goal

pub returns : goal.returns
returns g c = λ vs. place_apart _ c.args.st.now vs c.args.p.now ∙ sym c.in_ok-v.ensures
