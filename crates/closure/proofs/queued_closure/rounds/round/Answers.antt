use Rattle.std.proofs.Common.{◌<◌, arith}
use Rattle.closure.proofs.lemmas.queued_closure.Going.{rounds_none, rounds_new, rounds_known}
use Rattle.closure.proofs.queued_closure.rounds.round.Goals as goal
use Rattle.closure.proofs.queued_closure.rounds.round.Goals.{then-brought, else-brought}

pub loop-fact-init : goal.loop-fact-init
loop-fact-init g c = rounds_none (g.R.Rules.joined c.args.rules.now) (λ known. known < 0) c.args.found.now (λ fact h. absurd (omega arith))

pub loop-fact-preserved : goal.loop-fact-preserved
loop-fact-preserved g c =
    elim c.if-brought.branch [
      | then-brought w ↦ rw w.new-is
          (rounds_new (g.R.Rules.joined c.args.rules.now) c.loop-fact.fact c.args.found.now c.loop-fact.found c.take.new.found c.loop-fact.new c.loop-fact.invariant (rw w.if-brought.true at c.in_ok-brought.ensures))
      | else-brought w ↦ rw w.new-is
          (rounds_known (g.R.Rules.joined c.args.rules.now) c.loop-fact.fact c.args.found.now c.loop-fact.found c.take.new.found c.loop-fact.new c.loop-fact.invariant (rw w.if-brought.false at c.in_ok-brought.ensures))
    ]
