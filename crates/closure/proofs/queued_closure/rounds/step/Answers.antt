use Rattle.closure.proofs.lemmas.queued_closure.Going.{stepped}
use Rattle.closure.proofs.queued_closure.rounds.step.Goals as goal

pub returns : goal.returns
returns g c =
    stepped (g.R.Rules.alone c.args.rules.now) (g.R.Rules.joined c.args.rules.now) (g.R.Rules.universe_of c.args.rules.now) c.args.roots.now
    c.args.found.now c.drain.new.found c.round.new.found c.in_ok-new.new c.in_ok-drain.ensures c.in_ok-new.ensures
