use Rattle.std.proofs.lemmas.Result.{err_from_is_err_and}
use Rattle.attr_blobs.specs.Values.{named_at, nameds_at}
use Rattle.attr_blobs.proofs.Opened.{named_goes_on, named_ends, named_is_done}
use Rattle.attr_blobs.proofs.read.nameds_of.Goals as goal

pub returns-in_err-one : goal.returns-in_err-one
returns-in_err-one c =
    let p = err_from_is_err_and c.from_residual.result c.from_residual.ensures.1 in
    rw (p.1, p.2) (named_ends (named_at c.args.enums.now) c.in_err-one.field-0.0 c.loop.named c.args.count c.loop.counter c.loop.rest.now
    (nameds_at (named_at c.args.enums.now) c.args.count c.args.bytes.now) c.loop-test.true c.in_err-one.ensures c.loop.invariant)

pub loop-preserved : goal.loop-preserved
loop-preserved c =
    rw c.in_ok-push.ensures.ok (named_goes_on (named_at c.args.enums.now) c.loop.named c.args.count c.loop.counter c.loop.rest.now c.in_ok-one.one c.in_ok-one.after.now
    (nameds_at (named_at c.args.enums.now) c.args.count c.args.bytes.now) c.loop-test.true c.in_ok-one.ensures c.loop.invariant)

pub returns : goal.returns
returns c = named_is_done (named_at c.args.enums.now) c.loop.named c.args.count c.loop.counter c.loop.rest.now
    (nameds_at (named_at c.args.enums.now) c.args.count c.args.bytes.now) c.loop-test.false c.loop.invariant
