use Rattle.std.proofs.Common.{◌≡◌, ℕ, ◌<◌, ◌≤◌, true, length, sym, refl, subst, arith}
use Rattle.closure.specs.Facts.{is_set}
use Rattle.closure.specs.Rounds.{missing}
use Rattle.closure.proofs.Flags.{below_length}
use Rattle.closure.proofs.Steps.{all_below}
use Rattle.closure.specs.declared.queued_closure.found.Found.{Found}
use Rattle.closure.specs.queued_closure.Waiting.{Puts}
use Rattle.closure.proofs.lemmas.queued_closure.Going.{popped_in, known_more, fewer_more}
use Rattle.closure.proofs.queued_closure.rounds.drain.Goals as goal

pub brought_alone-requires-clause-fact_below : goal.brought_alone-requires-clause-fact_below
brought_alone-requires-clause-fact_below g c =
    let k = c.loop-fact.invariant.0 in
    let is_in : is_set c.loop-fact.found.set.flags c.in-Some.fact ≡ true =
    popped_in (g.R.Rules.alone c.args.rules.now) (g.R.Rules.joined c.args.rules.now) (g.R.Rules.universe_of c.args.rules.now) c.args.roots.now c.loop-fact.found c.pop.new.self c.in-Some.fact k c.in-Some.ensures in
    subst (λ (n : ℕ). c.in-Some.fact < n) k.one_each (below_length c.loop-fact.found.set.flags c.in-Some.fact is_in)

pub put_all-requires : goal.put_all-requires
put_all-requires g c =
    let k = c.loop-fact.invariant.0 in
    let is_in : is_set c.loop-fact.found.set.flags c.in-Some.fact ≡ true =
    popped_in (g.R.Rules.alone c.args.rules.now) (g.R.Rules.joined c.args.rules.now) (g.R.Rules.universe_of c.args.rules.now) c.args.roots.now c.loop-fact.found c.pop.new.self c.in-Some.fact k c.in-Some.ensures in
    let inside : c.in-Some.fact < g.R.Rules.universe_of c.args.rules.now =
    subst (λ (n : ℕ). c.in-Some.fact < n) k.one_each (below_length c.loop-fact.found.set.flags c.in-Some.fact is_in) in
    all_below c.as_slice.result.now _ _ (sym k.one_each)
    (λ x t. g.met.R.Rules.alone_below c.args.rules.now c.in-Some.fact x c.requires.rules inside ((c.in_ok-brought.ensures x).0 (rw c.as_slice.ensures at t)))

pub loop-fact-preserved : goal.loop-fact-preserved
loop-fact-preserved g c =
    let k = c.loop-fact.invariant.0 in
    let mid : Found = record { set = c.loop-fact.found.set; waiting = c.pop.new.self } in
    let p : Puts c.in_ok-brought.brought (length c.in_ok-brought.brought) mid c.put_all.new.found c.in_ok-put_all.field-0 = rw c.as_slice.ensures at c.in_ok-put_all.ensures in (
      known_more (g.R.Rules.alone c.args.rules.now) (g.R.Rules.joined c.args.rules.now) (g.R.Rules.universe_of c.args.rules.now) c.args.roots.now
          c.loop-fact.found mid c.put_all.new.found c.in-Some.fact c.in_ok-brought.brought c.in_ok-put_all.field-0 k refl c.in-Some.ensures c.in_ok-brought.ensures p,
      (let f : missing c.put_all.new.found.set.flags ≤ missing c.loop-fact.found.set.flags = fewer_more (g.R.Rules.alone c.args.rules.now) (g.R.Rules.joined c.args.rules.now) (g.R.Rules.universe_of c.args.rules.now) c.args.roots.now
          c.loop-fact.found mid c.put_all.new.found c.in-Some.fact c.in_ok-brought.brought c.in_ok-put_all.field-0 k refl c.in-Some.ensures c.in_ok-brought.ensures p in
          let h = c.loop-fact.invariant.1 in omega (arith, f, h)),
    )
