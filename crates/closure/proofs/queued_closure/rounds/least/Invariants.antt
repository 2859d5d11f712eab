use Rattle.closure.specs.Rounds.{missing}
use Rattle.closure.specs.queued_closure.Waiting.{IsKnown}
use Rattle.closure.proofs.queued_closure.rounds.least.Given as goal

abbrev pub invariant-loop-found : goal.invariant-loop-found
invariant-loop-found g l = IsKnown (g.R.Rules.alone l.rules) (g.R.Rules.joined l.rules) (g.R.Rules.universe_of l.rules) l.roots l.found

abbrev pub decreases-loop-found : goal.decreases-loop-found
decreases-loop-found g l = missing l.found.set.flags
