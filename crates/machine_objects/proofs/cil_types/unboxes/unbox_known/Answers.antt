use Rattle.std.proofs.Common.{◌≡◌, [], subst}
use Rattle.std.specs.Prelude.{IfOk}
use Rattle.rules.specs.step_rules.Next.{Next}
use Rattle.rules.specs.step_rules.Types.{unboxed}
use Rattle.machine_words.specs.cil_words.Steps.{next_of, here_by}
use Rattle.machine_objects.proofs.lemmas.cil_types.Operands.{with_type}
use Rattle.machine_objects.proofs.cil_types.unboxes.unbox_known.Goals as goal

pub returns-in-Some : goal.returns-in-Some
returns-in-Some g c =
    subst (λ (x : Next). IfOk c.unboxed.result (λ out. next_of out c.unboxed.new.st [] ≡ x))
    (with_type (g.Q.Answers.queries c.args.q.now) (here_by c.args.body.now c.args.st.now) c.args.st.now c.args.known.now
    (unboxed (g.Q.Answers.queries c.args.q.now) (here_by c.args.body.now c.args.st.now) c.args.i.now c.args.st.now) c.in-Good.ty c.in-Some.ty
    c.args_of-targs.result.now c.as_slice.result.now c.in_ok-ty-in-Good.field-0 c.in-Good.is c.args_of-targs.ensures c.as_slice.ensures
    c.in_ok-ty-in-Good.ensures c.in-Some.is) c.unboxed.ensures
