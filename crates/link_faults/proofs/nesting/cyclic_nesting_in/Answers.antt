use Rattle.std.proofs.lemmas.Bool.{OnTrue_at}
use Rattle.link_faults.proofs.Around.{none_cyclic}
use Rattle.link_faults.proofs.nesting.cyclic_nesting_in.Goals as goal

pub returns-then-branch : goal.returns-then-branch
returns-then-branch c =
    none_cyclic c.args.rec.now c.args.file c.in_ok-graph.graph.items c.deref.result.now c.in_ok-graph.ensures c.deref.ensures.value (OnTrue_at c.if-branch.true c.in_ok-is_acyclic.ensures)
