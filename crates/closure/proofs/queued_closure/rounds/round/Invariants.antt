use Rattle.std.proofs.Common.{◌<◌}
use Rattle.closure.specs.queued_closure.Waiting.{Rounds}
use Rattle.closure.proofs.queued_closure.rounds.round.Given as goal

abbrev pub invariant-loop-fact : goal.invariant-loop-fact
invariant-loop-fact g l = Rounds (g.R.Rules.joined l.rules) (λ known. known < l.fact) l.initial.found l.found l.new
