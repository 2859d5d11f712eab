use Rattle.std.proofs.lemmas.Result.{err_from_is_err_and}
use Rattle.attr_blobs.specs.Values.{fixed_at}
use Rattle.attr_blobs.proofs.Opened.{fixed_goes_on, fixed_ends, fixed_is_done}
use Rattle.attr_blobs.proofs.read.fixed_of.Goals as goal

pub returns-in_err-one : goal.returns-in_err-one
returns-in_err-one c =
    let p = err_from_is_err_and c.from_residual.result c.from_residual.ensures.1 in
    rw (p.1, p.2) (fixed_ends c.args.enums.now c.in_err-one.field-0.0 c.loop-kind.args c.args.params.now c.loop-kind.kind-index c.kind-item.result c.loop-kind.rest.now
    (fixed_at c.args.enums.now c.args.params.now c.args.bytes.now) c.loop-kind-test.true c.kind-item.is c.in_err-one.ensures c.loop-kind.invariant)

pub loop-kind-preserved : goal.loop-kind-preserved
loop-kind-preserved c =
    rw c.in_ok-push.ensures.ok (fixed_goes_on c.args.enums.now c.loop-kind.args c.args.params.now c.loop-kind.kind-index c.kind-item.result c.loop-kind.rest.now c.in_ok-one.one c.in_ok-one.after.now
    (fixed_at c.args.enums.now c.args.params.now c.args.bytes.now) c.loop-kind-test.true c.kind-item.is c.in_ok-one.ensures c.loop-kind.invariant)

pub returns : goal.returns
returns c = fixed_is_done c.args.enums.now c.loop-kind.args c.args.params.now c.loop-kind.kind-index c.loop-kind.rest.now
    (fixed_at c.args.enums.now c.args.params.now c.args.bytes.now) c.loop-kind-test.false c.loop-kind.invariant
