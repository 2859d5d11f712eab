use Rattle.std.proofs.Common.{arith}
use Rattle.resolver.proofs.lemmas.type_links.Outers.{outers_all}
use Rattle.resolver.proofs.type_links.enclosers.Enclosers.of.Goals as goal

pub returns : goal.returns
returns c =
    outers_all c.args.rec.now (record { rows = c.loop-row.rows }) c.loop-row.row-index c.as_slice-row-items.result.now (omega arith) c.as_slice-row-items.ensures c.loop-row.invariant
