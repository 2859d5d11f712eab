use Rattle.closure.specs.Rounds.{Puts}
use Rattle.closure.proofs.facts.put_all.Given as goal

abbrev pub invariant-loop-fact : goal.invariant-loop-fact
invariant-loop-fact l = Puts l.facts l.fact-index l.initial.set.flags l.set.flags l.new
