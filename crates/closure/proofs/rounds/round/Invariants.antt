use Rattle.std.proofs.Common.{◌<◌}
use Rattle.closure.specs.Rounds.{Taken}
use Rattle.closure.proofs.rounds.round.Given as goal

abbrev pub invariant-loop-fact : goal.invariant-loop-fact
invariant-loop-fact g l = Taken (g.R.Rules.brings l.rules) (λ known. known < l.fact) l.initial.set.flags l.set.flags l.new
