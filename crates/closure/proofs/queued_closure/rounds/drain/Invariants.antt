use Rattle.std.proofs.Common.{◌≤◌}
use Rattle.closure.specs.Rounds.{missing}
use Rattle.closure.specs.queued_closure.Waiting.{IsKnown, work_left}
use Rattle.closure.proofs.queued_closure.rounds.drain.Given as goal

abbrev pub invariant-loop-fact : goal.invariant-loop-fact
invariant-loop-fact g l =
    IsKnown (g.R.Rules.alone l.rules) (g.R.Rules.joined l.rules) (g.R.Rules.universe_of l.rules) l.roots l.found × (missing l.found.set.flags ≤ missing l.initial.found.set.flags)

abbrev pub decreases-loop-fact : goal.decreases-loop-fact
decreases-loop-fact g l = work_left l.found
