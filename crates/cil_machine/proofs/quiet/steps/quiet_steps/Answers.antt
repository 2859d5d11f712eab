use Rattle.cil_machine.proofs.Runs.{leads_on}
use Rattle.cil_machine.proofs.quiet.steps.quiet_steps.Goals as goal

pub loop-made-preserved : goal.loop-made-preserved
loop-made-preserved g c =
    leads_on (g.Q.Answers.queries c.args.q.now) c.loop-made.made c.args.st.now c.loop-made.st c.quiet.new.st c.in-Some.body.method.now c.in-Some.body.code.now c.in-Some-instruction.i.now
    c.loop-made.invariant c.in-Some-instruction.ensures (rw c.if-not-branch.false at c.in_ok-quiet.ensures)
