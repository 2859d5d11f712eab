use Rattle.closure.specs.Rounds.{missing}
use Rattle.closure.proofs.Following.{Reached}
use Rattle.closure.proofs.rounds.least.Given as goal

abbrev pub invariant-loop-set : goal.invariant-loop-set
invariant-loop-set g l = Reached (g.R.Rules.brings l.rules) (g.R.Rules.universe_of l.rules) l.roots l.set.flags

abbrev pub decreases-loop-set : goal.decreases-loop-set
decreases-loop-set g l = missing l.set.flags
