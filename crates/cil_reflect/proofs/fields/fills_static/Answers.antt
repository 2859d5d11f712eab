use Rattle.std.proofs.Common.{◌∙◌, ap}
use Rattle.il_base.specs.declared.cil_values.value.Value.{Value}
use Rattle.rules.specs.step_rules.Frames.{started}
use Rattle.rules.specs.step_rules.CoreInvoking.{Taken, by_taken}
use Rattle.rules.specs.step_rules.CoreFields.{sets_static}
use Rattle.std.specs.Prelude.{true}
use Rattle.machine_words.specs.cil_closing.Callees.{accessed_by}
use Rattle.cil_reflect.specs.Aims.{again}
use Rattle.cil_reflect.proofs.fields.fills_static.Goals as goal

pub returns : goal.returns
returns g c give =
    let q = g.Q.Answers.queries c.args.q.now in
    ap (λ (t : Taken Value). by_taken q c.args.st.now t (λ w. started q true c.args.a.now.owner (again c.args.outside c.args.back.now c.args.st.now) (λ t. sets_static q (accessed_by c.args.a.now) c.args.st.now give w))) c.in_ok-kept.ensures ∙ c.in_ok-out.ensures give
