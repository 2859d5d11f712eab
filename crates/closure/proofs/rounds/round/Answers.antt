use Rattle.std.proofs.Common.{◌<◌, arith}
use Rattle.closure.proofs.Steps.{taken_none, taken_new, taken_known}
use Rattle.closure.proofs.rounds.round.Goals as goal
use Rattle.closure.proofs.rounds.round.Goals.{then-brought, else-brought}

pub loop-fact-init : goal.loop-fact-init
loop-fact-init g c = taken_none (g.R.Rules.brings c.args.rules.now) (λ known. known < 0) c.args.set.now.flags (λ fact h. absurd (omega arith))

pub loop-fact-preserved : goal.loop-fact-preserved
loop-fact-preserved g c =
    elim c.if-brought.branch [
      | then-brought w ↦ rw w.new-is (taken_new c.loop-fact.invariant (rw w.if-brought.true at c.in_ok-brought.ensures))
      | else-brought w ↦ rw w.new-is (taken_known c.loop-fact.invariant (rw w.if-brought.false at c.in_ok-brought.ensures))
    ]
