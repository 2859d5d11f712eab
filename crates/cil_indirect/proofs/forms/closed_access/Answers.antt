use Rattle.machine_words.specs.cil_words.Steps.{here_by}
use Rattle.rules.specs.step_rules.Indirect.{typed_access}
use Rattle.cil_indirect.proofs.Closing.{closed_by}
use Rattle.cil_indirect.proofs.forms.closed_access.Goals as goal

pub returns : goal.returns
returns g c =
    let q = g.Q.Answers.queries c.args.q.now in
    let s = c.args.st.now in
    let here = here_by c.args.body.now s in
    closed_by q here s c.args.ty.now c.in-Good.open c.in-Some.closed c.args_of-targs.result.now c.as_slice.result.now c.in_ok-found.found (typed_access q here c.args.i.now s) _ c.in-Good.is c.args_of-targs.ensures c.as_slice.ensures c.in_ok-found.ensures c.in-Some.is c.in_ok-out.ensures
