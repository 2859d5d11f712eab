use Rattle.std.proofs.Common.{◌<◌, length, sym, ◌∙◌}
use Rattle.closure.specs.Facts.{is_set}
use Rattle.closure.proofs.Flags.{below_length}
use Rattle.closure.proofs.Steps.{all_below}
use Rattle.closure.specs.queued_closure.Waiting.{Puts}
use Rattle.closure.proofs.lemmas.queued_closure.Going.{rounds_none, round_one}
use Rattle.closure.proofs.queued_closure.rounds.take.Goals as goal

pub returns-then-not-has : goal.returns-then-not-has
returns-then-not-has g c =
    rounds_none (g.R.Rules.joined c.args.rules.now) _ c.args.found.now (λ fact e. rw e (sym c.has.ensures ∙ c.if-not-has.true))

pub brought_with-requires-clause-fact_below : goal.brought_with-requires-clause-fact_below
brought_with-requires-clause-fact_below g c = rw c.requires.one_each at (below_length c.args.found.now.set.flags c.args.fact (sym c.has.ensures ∙ c.if-not-has.false))

pub brought_with-requires-clause-have_below : goal.brought_with-requires-clause-have_below
brought_with-requires-clause-have_below g c = λ fact s. rw c.requires.one_each at (below_length c.args.found.now.set.flags fact s)

pub put_all-requires : goal.put_all-requires
put_all-requires g c =
    let inside : c.args.fact < length c.args.found.now.set.flags = below_length c.args.found.now.set.flags c.args.fact (sym c.has.ensures ∙ c.if-not-has.false) in
    all_below c.as_slice.result.now _ _ (sym c.requires.one_each)
    (λ x t. g.met.R.Rules.joined_below c.args.rules.now (is_set c.args.found.now.set.flags) c.args.fact x c.requires.rules (rw c.requires.one_each at inside)
    ((c.in_ok-brought.ensures x).0 (rw c.as_slice.ensures at t)))

pub returns : goal.returns
returns g c =
    let p : Puts c.in_ok-brought.brought (length c.in_ok-brought.brought) c.args.found.now c.put_all.new.found c.in_ok-new.new = rw c.as_slice.ensures at c.in_ok-new.ensures in
    round_one (g.R.Rules.joined c.args.rules.now) c.args.fact c.in_ok-brought.brought c.args.found.now c.put_all.new.found c.in_ok-new.new
    c.in_ok-brought.ensures (sym c.has.ensures ∙ c.if-not-has.false) p
