use Rattle.std.proofs.Common.{◌≡◌, ap, []}
use Rattle.std.specs.Prelude.{IfOk}
use Rattle.rules.specs.step_rules.Next.{Next}
use Rattle.machine_words.specs.declared.cil_words.step_out.StepOut.{StepOut}
use Rattle.machine_words.specs.cil_words.Steps.{next_of, here_by}
use Rattle.machine_objects.proofs.lemmas.cil_types.Casting.{casts_keeps, casts_stuck, casts_refuses}
use Rattle.std.proofs.Common.{subst}
use Rattle.machine_objects.proofs.cil_types.casts.casts.Goals as goal

pub returns-in-Keeps : goal.returns-in-Keeps
returns-in-Keeps g c =
    casts_keeps (g.Q.Answers.queries c.args.q.now) (here_by c.args.body.now c.args.st.now) c.args.i.now c.args.st.now c.args.ty.now c.in-Some.v.now _
    c.in_ok-cast_of.field-0 c.in-Some.ensures c.in_ok-cast_of.ensures (next_of c.goes.result c.goes.new.st []) c.in-Keeps.is c.goes.ensures

pub returns-in-Stuck : goal.returns-in-Stuck
returns-in-Stuck g c =
    casts_stuck (g.Q.Answers.queries c.args.q.now) (here_by c.args.body.now c.args.st.now) c.args.i.now c.args.st.now c.args.ty.now c.in-Some.v.now _
    c.in_ok-cast_of.field-0 c.in-Some.ensures c.in_ok-cast_of.ensures (next_of c.stuck-in-Stuck.result c.args.st.now []) c.in-Stuck.is
    (ap (λ (r : StepOut). next_of r c.args.st.now []) c.stuck-in-Stuck.ensures)

pub returns-in-Refuses : goal.returns-in-Refuses
returns-in-Refuses g c =
    subst (λ (x : Next). IfOk c.refuse.result (λ out. next_of out c.refuse.new.st [] ≡ x))
    (casts_refuses (g.Q.Answers.queries c.args.q.now) (here_by c.args.body.now c.args.st.now) c.args.i.now c.args.st.now c.args.ty.now c.in-Some.v.now _
    c.in_ok-cast_of.field-0 c.in-Some.ensures c.in_ok-cast_of.ensures c.in-Refuses.is) c.refuse.ensures
