use Rattle.std.proofs.Common.{◌∙◌}
use Rattle.closure.specs.Facts.{facts_in}
use Rattle.closure.proofs.Flags.{below_length}
use Rattle.closure.proofs.Following.{Lawful, Reached, reached_more, closed_at_end, derived_in, roots_below}
use Rattle.closure.specs.Facts.{root}
use Rattle.closure.proofs.rounds.least.Goals as goal

pub loop-set-init : goal.loop-set-init
loop-set-init g c = record {
  one_each = c.in_ok-set.ensures.one_each ∙ c.universe.ensures;
  holds = λ n s. (c.in_ok-set.ensures.roots n).1 s;
  sound = λ n s. root ((c.in_ok-set.ensures.roots n).0 s);
}

pub loop-set-preserved : goal.loop-set-preserved
loop-set-preserved g c = reached_more c.loop-set.invariant c.in_ok-round.ensures

pub returns-clause-derived : goal.returns-clause-derived
returns-clause-derived g c = λ fact.
    let lawful : Lawful (g.R.Rules.brings c.args.rules.now) (g.R.Rules.universe_of c.args.rules.now) =
    record { stays_below = g.met.R.Rules.stays_below c.args.rules.now; is_monotone = g.met.R.Rules.is_monotone c.args.rules.now } in
    let reached : Reached (g.R.Rules.brings c.args.rules.now) (g.R.Rules.universe_of c.args.rules.now) c.args.roots.now c.round.new.set.flags =
    reached_more c.loop-set.invariant c.in_ok-round.ensures in (
      reached.sound fact,
      derived_in lawful (roots_below c.args.roots.now (g.R.Rules.universe_of c.args.rules.now) c.requires) (facts_in c.round.new.set) reached.holds
          (closed_at_end c.loop-set.invariant c.in_ok-round.ensures c.if-branch.false),
    )

pub returns-clause-closed : goal.returns-clause-closed
returns-clause-closed g c = closed_at_end c.loop-set.invariant c.in_ok-round.ensures c.if-branch.false

pub returns-clause-least : goal.returns-clause-least
returns-clause-least g c = λ other holds closed fact s.
    let lawful : Lawful (g.R.Rules.brings c.args.rules.now) (g.R.Rules.universe_of c.args.rules.now) =
    record { stays_below = g.met.R.Rules.stays_below c.args.rules.now; is_monotone = g.met.R.Rules.is_monotone c.args.rules.now } in
    let reached : Reached (g.R.Rules.brings c.args.rules.now) (g.R.Rules.universe_of c.args.rules.now) c.args.roots.now c.round.new.set.flags =
    reached_more c.loop-set.invariant c.in_ok-round.ensures in
    derived_in lawful (roots_below c.args.roots.now (g.R.Rules.universe_of c.args.rules.now) c.requires) other holds closed (reached.sound fact s)

pub returns-clause-below : goal.returns-clause-below
returns-clause-below g c = λ fact s.
    let reached : Reached (g.R.Rules.brings c.args.rules.now) (g.R.Rules.universe_of c.args.rules.now) c.args.roots.now c.round.new.set.flags =
    reached_more c.loop-set.invariant c.in_ok-round.ensures in
    rw reached.one_each at (below_length c.round.new.set.flags fact s)
