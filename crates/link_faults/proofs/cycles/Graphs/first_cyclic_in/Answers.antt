use Rattle.std.proofs.Common.{ap, length, arith}
use Rattle.link_faults.proofs.Defined.{row_is_type}
use Rattle.link_faults.proofs.cycles.Graphs.first_cyclic_in.Goals as goal

pub is_cyclic-requires-clause-there : goal.is_cyclic-requires-clause-there
is_cyclic-requires-clause-there c =
    row_is_type c.args.scope.now.all.now c.args.file c.loop-at.at c.args.rec.now c.requires.there (let l = ap length c.as_slice-row-items.ensures in omega arith)
