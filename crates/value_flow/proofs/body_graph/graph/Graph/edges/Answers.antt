use Rattle.std.proofs.Common.{◌≡◌, ℕ, sym, subst}
use Rattle.std.specs.Prelude.{Some, None, slice_get}
use Rattle.value_flow.proofs.lemmas.body_graph.PlaceLemmas.{edges_none, edges_some}
use Rattle.value_flow.proofs.body_graph.graph.Graph.edges.Goals as goal

pub returns-in-None-clause-exact : goal.returns-in-None-clause-exact
returns-in-None-clause-exact c = λ recs s is.
    edges_none recs s c.args.self.now c.args.at is (subst (λ (n : ℕ). slice_get c.args.self.now.edges n ≡ None) c.get.ensures (sym c.in-None.ensures.value))

pub returns-in-Some-clause-exact : goal.returns-in-Some-clause-exact
returns-in-Some-clause-exact c = λ recs s is.
    edges_some recs s c.args.self.now c.args.at c.in-Some.edges.now is (subst (λ (n : ℕ). slice_get c.args.self.now.edges n ≡ Some c.in-Some.edges.now) c.get.ensures (sym c.in-Some.ensures.value))
