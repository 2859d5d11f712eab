use Rattle.std.proofs.Common.{◌≡◌, Some, refl, sym, ◌∙◌}
use Rattle.rules.specs.step_rules.Frames.{zero_locals}
use Rattle.machine_words.specs.cil_closing.Callees.{callee_by}
use Rattle.cil_machine.proofs.beginning.with_code.Goals as goal

pub returns : goal.returns
returns g c =
    let found : zero_locals (g.Q.Answers.queries c.args.q.now) c.args.c.now.called c.args.code.now ≡ Some c.in-Some.locals = sym c.in_ok-locals.ensures ∙ c.in-Some.is in
    rw (found, c.in_ok-s.ensures (callee_by c.args.entry.now), c.in_ok-first.ensures) refl
