use Rattle.std.proofs.Common.{Some, None, Bool, length, slice_index_or, ap, ◌∙◌, arith}
use Rattle.std.specs.Prelude.{if◌then◌else◌}
use Rattle.link_faults.proofs.Runs.{passed_run}
use Rattle.link_faults.proofs.owners.own_run.Goals as goal

pub returns : goal.returns
returns c = λ k lt.
    c.loop-at.invariant.owned k lt
    ∙ ap (λ (b : Bool). if b then Some c.args.owner else slice_index_or c.args.owners.now k None)
    (passed_run c.args.first c.args.end c.loop-at.at (length c.loop-at.owners) k lt (omega arith) (omega arith) c.loop-at.invariant.far)
