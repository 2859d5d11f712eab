use Rattle.std.proofs.Common.{◌∷◌, ap, ◌∙◌}
use Rattle.il_base.specs.declared.cil_values.path.Path.{Path}
use Rattle.il_base.specs.declared.cil_values.value.Value.{Value}
use Rattle.il_base.specs.declared.cil_values.value.Value.TheVariants as value
use Rattle.rules.specs.step_rules.Words.{goes}
use Rattle.machine_words.specs.cil_words.Steps.{here_by}
use Rattle.machine_words.specs.cil_closing.Callees.{accessed_by}
use Rattle.machine_numbers.specs.cil_pointers.Reaching.{with_stack}
use Rattle.machine_objects.proofs.lemmas.cil_fields.ReadyFields.{address_over, address_ready}
use Rattle.machine_objects.proofs.cil_fields.static_fields.address_static.Goals as goal

pub returns-in-Over : goal.returns-in-Over
returns-in-Over g c = λ vs.
    address_over (g.Q.Answers.queries c.args.q.now) c.args.body.now c.args.i.now (accessed_by c.args.a.now) c.args.st.now c.with_static.new.st c.in_ok-ready.ready c.in_ok-ready.ensures vs c.in-Over.out c.in-Over.is

pub returns-in_ok-out-in-Is : goal.returns-in_ok-out-in-Is
returns-in_ok-out-in-Is g c = λ vs.
    let t = c.with_static.new.st in
    address_ready (g.Q.Answers.queries c.args.q.now) c.args.body.now c.args.i.now (accessed_by c.args.a.now) c.args.st.now t c.in_ok-ready.ready c.in_ok-ready.ensures vs _ c.in-Is.ty c.in-Is.is
    (c.in_ok-out-in-Is.ensures vs
    ∙ ap (λ (w : Value). goes (here_by c.args.body.now t) c.args.i.now (w ∷ t.top.stack) (with_stack vs t)) (c.in_ok-pointer-in-Is.ensures ∙ ap (λ (p : Path). value.Pointer p) c.in_ok-p-in-Is.ensures))
