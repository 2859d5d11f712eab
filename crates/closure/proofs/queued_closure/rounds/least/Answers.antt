use Rattle.std.proofs.Common.{subst, ℕ}
use Rattle.closure.proofs.Flags.{below_length}
use Rattle.closure.proofs.Following.{roots_below}
use Rattle.closure.specs.queued_closure.Waiting.{IsStart}
use Rattle.closure.proofs.lemmas.queued_closure.Going.{known_start, derived_known}
use Rattle.closure.proofs.queued_closure.rounds.least.Goals as goal

pub loop-found-init : goal.loop-found-init
loop-found-init g c =
    known_start (g.R.Rules.alone c.args.rules.now) (g.R.Rules.joined c.args.rules.now) (g.R.Rules.universe_of c.args.rules.now) c.args.roots.now c.in_ok-found.found
    (subst (λ (n : ℕ). IsStart n c.args.roots.now c.in_ok-found.found) c.universe.ensures c.in_ok-found.ensures)

pub loop-found-preserved : goal.loop-found-preserved
loop-found-preserved g c = c.in_ok-step.ensures.known

pub returns-clause-derived : goal.returns-clause-derived
returns-clause-derived g c =
    derived_known (g.R.Rules.alone c.args.rules.now) (g.R.Rules.joined c.args.rules.now) (g.R.Rules.universe_of c.args.rules.now) c.args.roots.now
    (λ fact x. g.met.R.Rules.alone_below c.args.rules.now fact x c.requires.rules) (λ have fact x. g.met.R.Rules.joined_below c.args.rules.now have fact x c.requires.rules)
    (λ few many fact x. g.met.R.Rules.is_monotone c.args.rules.now few many fact x c.requires.rules)
    (roots_below c.args.roots.now (g.R.Rules.universe_of c.args.rules.now) c.requires.roots) c.step.new.found c.in_ok-step.ensures.known (c.in_ok-step.ensures.closed c.if-branch.false)

pub returns-clause-below : goal.returns-clause-below
returns-clause-below g c = λ fact s. rw c.in_ok-step.ensures.known.one_each at (below_length c.step.new.found.set.flags fact s)
