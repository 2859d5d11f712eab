use Rattle.cil_machine.proofs.Runs.{Leads}
use Rattle.cil_machine.proofs.quiet.steps.quiet_steps.Given as goal

abbrev pub invariant-loop-made : goal.invariant-loop-made
invariant-loop-made g l = Leads (g.Q.Answers.queries l.q) l.made l.initial.st l.st l.body.method.now l.body.code.now
