use Rattle.rules.specs.step_rules.Words.{here_in}
use Rattle.machine_calls.proofs.lemmas.cil_returns.RunningFrames.{no_body, no_instruction, at_instruction}
use Rattle.machine_calls.proofs.cil_returns.current.running.Goals as goal

pub returns-in_default : goal.returns-in_default
returns-in_default g c = no_body (g.Q.Answers.queries c.args.q.now) c.args.f.now c.in_default.ensures

pub returns-in_default-instruction : goal.returns-in_default-instruction
returns-in_default-instruction g c =
    no_instruction (g.Q.Answers.queries c.args.q.now) c.args.f.now (here_in c.args.f.now c.in-Some.body.method.now c.in-Some.body.code.now) c.in-Some.ensures c.in_default-instruction.ensures

pub returns : goal.returns
returns g c =
    at_instruction (g.Q.Answers.queries c.args.q.now) c.args.f.now (here_in c.args.f.now c.in-Some.body.method.now c.in-Some.body.code.now) c.in-Some.ensures c.in-Some-instruction.instruction.now c.in-Some-instruction.ensures
