use Rattle.std.proofs.Common.{◌≡◌, true, false}
use Rattle.rules.specs.step_rules.Words.{here_in, may_go}
use Rattle.machine_calls.proofs.lemmas.cil_returns.Callers.{back_barred, back_goes}
use Rattle.machine_calls.proofs.cil_returns.back.goes_back.Goals as goal

pub returns-then-not-may_go : goal.returns-then-not-may_go
returns-then-not-may_go g c =
    let caller = c.in-Some.caller in
    let barred : may_go caller.body.code.now caller.instruction.now.at caller.instruction.now.next ≡ false = cc (c.if-not-may_go.ensures, c.may_go.ensures, c.if-not-may_go.true) in
    λ s bytes. back_barred (g.Q.Answers.queries c.args.q.now) s c.args.st.now c.args.st.now.top.stack bytes (here_in c.args.st.now.top caller.body.method.now caller.body.code.now) caller.instruction.now c.in-Some.ensures barred

pub returns : goal.returns
returns g c =
    let caller = c.in-Some.caller in
    let may : may_go caller.body.code.now caller.instruction.now.at caller.instruction.now.next ≡ true = cc (c.if-not-may_go.ensures, c.may_go.ensures, c.if-not-may_go.false) in
    λ s bytes. back_goes (g.Q.Answers.queries c.args.q.now) s c.args.st.now c.args.st.now.top.stack bytes (here_in c.args.st.now.top caller.body.method.now caller.body.code.now) caller.instruction.now c.in-Some.ensures may
