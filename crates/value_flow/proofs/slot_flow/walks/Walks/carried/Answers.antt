use Rattle.std.proofs.Common.{ℕ, List, subst}
use Rattle.std.specs.Prelude.{IsTrue, ◌↔◌}
use Rattle.std.specs.List.{Contains}
use Rattle.closure.specs.Facts.{facts_in, Derived}
use Rattle.value_flow.specs.slot_flow.Facts.{follows}
use Rattle.value_flow.proofs.lemmas.slot_flow.Alone.{same_found}
use Rattle.value_flow.proofs.lemmas.slot_flow.Roots.{roots_below}
use Rattle.value_flow.proofs.slot_flow.walks.Walks.carried.Goals as goal

pub least-requires-clause-roots : goal.least-requires-clause-roots
least-requires-clause-roots c = roots_below c.args.self.now.flow c.args.self.now.size c.in_ok-roots.roots c.args.self.now.whole c.in_ok-roots.ensures

pub returns : goal.returns
returns c = λ fact.
    subst (λ (xs : List ℕ). IsTrue (facts_in c.in_ok-bits.bits fact) ↔ Derived (λ have n c'. Contains (follows c.args.self.now.flow n) c') (Contains xs) fact)
    c.in_ok-roots.ensures
    (same_found (λ n c'. Contains (follows c.args.self.now.flow n) c') (Contains c.in_ok-roots.roots) (facts_in c.in_ok-bits.bits fact) fact (c.in_ok-bits.ensures.derived fact))
