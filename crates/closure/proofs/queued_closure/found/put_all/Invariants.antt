use Rattle.closure.specs.queued_closure.Waiting.{Puts}
use Rattle.closure.proofs.queued_closure.found.put_all.Given as goal

abbrev pub invariant-loop-fact : goal.invariant-loop-fact
invariant-loop-fact l = Puts l.facts l.fact-index l.initial.found l.found l.new
