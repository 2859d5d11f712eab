use Rattle.rules.specs.step_rules.Run.{run}
use Rattle.file_runs.proofs.Turns.{Left}
use Rattle.file_runs.proofs.running.steps.Given as goal

abbrev pub invariant-loop-left : goal.invariant-loop-left
invariant-loop-left g l = Left (run (g.Q.Answers.queries l.q) l.n l.initial.st) (g.O.Sink.state l.initial.out) (g.O.Sink.state l.out) (run (g.Q.Answers.queries l.q) l.left l.st)

abbrev pub decreases-loop-left : goal.decreases-loop-left
decreases-loop-left g l = l.left
