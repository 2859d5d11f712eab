use Rattle.std.proofs.lemmas.Result.{err_from_is_err_and}
use Rattle.attr_blobs.specs.Values.{arg_at, args_at}
use Rattle.attr_blobs.proofs.Opened.{goes_on, ends, is_done}
use Rattle.attr_blobs.proofs.args.+args.Goals as goal

pub args_of-returns-in_err-one : goal.args_of-returns-in_err-one
args_of-returns-in_err-one t c =
    let p = err_from_is_err_and c.from_residual.result c.from_residual.ensures.1 in
    rw (p.1, p.2) (ends (arg_at c.args.enums.now c.args.room c.args.kind.now) c.in_err-one.field-0.0 c.loop.args c.args.count c.loop.counter c.loop.rest.now
    (args_at (arg_at c.args.enums.now c.args.room c.args.kind.now) c.args.count c.args.bytes.now) c.loop-test.true c.in_err-one.ensures c.loop.invariant)

pub args_of-loop-preserved : goal.args_of-loop-preserved
args_of-loop-preserved t c =
    rw c.in_ok-push.ensures.ok (goes_on (arg_at c.args.enums.now c.args.room c.args.kind.now) c.loop.args c.args.count c.loop.counter c.loop.rest.now c.in_ok-one.one c.in_ok-one.after.now
    (args_at (arg_at c.args.enums.now c.args.room c.args.kind.now) c.args.count c.args.bytes.now) c.loop-test.true c.in_ok-one.ensures c.loop.invariant)

pub args_of-returns : goal.args_of-returns
args_of-returns t c = is_done (arg_at c.args.enums.now c.args.room c.args.kind.now) c.loop.args c.args.count c.loop.counter c.loop.rest.now
    (args_at (arg_at c.args.enums.now c.args.room c.args.kind.now) c.args.count c.args.bytes.now) c.loop-test.false c.loop.invariant
