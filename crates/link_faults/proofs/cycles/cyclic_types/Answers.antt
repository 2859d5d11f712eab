use Rattle.std.proofs.lemmas.Bool.{OnTrue_at}
use Rattle.link_faults.proofs.OnCycles.{none_cyclic, same_graphs}
use Rattle.link_faults.proofs.cycles.cyclic_types.Goals as goal

pub returns-then-branch : goal.returns-then-branch
returns-then-branch c =
    let told = c.links_tell.ensures c.args.all.now c.args.links.now c.requires.told in
    none_cyclic c.args.all.now c.args.links.now (record { tokens = told.0; signatures = told.1; methods = told.2 }) c.in_ok-graphs.graphs
    (same_graphs c.args.all.now c.in_ok-scope.scope.all.now c.args.links.now c.in_ok-scope.scope.links.now c.in_ok-graphs.graphs c.in_ok-scope.ensures.all c.in_ok-scope.ensures.links c.in_ok-graphs.ensures)
    (OnTrue_at c.if-branch.true c.in_ok-are_acyclic.ensures.bases) (OnTrue_at c.if-branch.true c.in_ok-are_acyclic.ensures.interfaces) (OnTrue_at c.if-branch.true c.in_ok-are_acyclic.ensures.held) c.args.inputs
