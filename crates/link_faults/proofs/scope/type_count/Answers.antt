use Rattle.std.proofs.Common.{◌∙◌, arith}
use Rattle.link_faults.proofs.Ids.{all_counted}
use Rattle.link_faults.proofs.scope.type_count.Goals as goal

pub returns : goal.returns
returns c = c.loop-rec.invariant ∙ all_counted c.args.all.now c.loop-rec.rec-index (omega arith)
