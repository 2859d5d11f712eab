use Rattle.std.proofs.Common.{◌<◌, length, sym, ◌∙◌}
use Rattle.closure.specs.Facts.{is_set}
use Rattle.closure.specs.Rounds.{Puts}
use Rattle.closure.proofs.Flags.{below_length}
use Rattle.closure.proofs.Steps.{taken_one, taken_none, all_below}
use Rattle.closure.proofs.rounds.take.Goals as goal

pub returns-then-not-has : goal.returns-then-not-has
returns-then-not-has g c =
    taken_none (g.R.Rules.brings c.args.rules.now) _ c.args.set.now.flags (λ fact e. rw e (sym c.has.ensures ∙ c.if-not-has.true))

pub consequences-requires-clause-fact_below : goal.consequences-requires-clause-fact_below
consequences-requires-clause-fact_below g c = rw c.requires at (below_length c.args.set.now.flags c.args.fact (sym c.has.ensures ∙ c.if-not-has.false))

pub consequences-requires-clause-have_below : goal.consequences-requires-clause-have_below
consequences-requires-clause-have_below g c = λ fact s. rw c.requires at (below_length c.args.set.now.flags fact s)

pub put_all-new-requires : goal.put_all-new-requires
put_all-new-requires g c =
    let inside : c.args.fact < length c.args.set.now.flags = below_length c.args.set.now.flags c.args.fact (sym c.has.ensures ∙ c.if-not-has.false) in
    all_below c.as_slice.result.now _ _ (sym c.requires)
    (λ x t. g.met.R.Rules.stays_below c.args.rules.now (is_set c.args.set.now.flags) c.args.fact x (rw c.requires at inside)
    ((c.in_ok-consequences.ensures x).0 (rw c.as_slice.ensures at t)))

pub returns : goal.returns
returns g c =
    let p : Puts c.in_ok-consequences.consequences (length c.in_ok-consequences.consequences) c.args.set.now.flags c.put_all-new.new.set.flags c.put_all-new.result = rw c.as_slice.ensures at c.put_all-new.ensures in
    taken_one (g.R.Rules.brings c.args.rules.now) c.args.fact c.in_ok-consequences.consequences c.args.set.now.flags c.put_all-new.new.set.flags c.put_all-new.result
    c.in_ok-consequences.ensures (sym c.has.ensures ∙ c.if-not-has.false) p
