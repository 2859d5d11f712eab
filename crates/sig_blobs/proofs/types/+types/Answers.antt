use Rattle.std.proofs.Common.{arith}
use Rattle.std.proofs.lemmas.Result.{err_from_is_err_and}
use Rattle.il_base.specs.blob_grammar.Reading.{type_at, types_at}
use Rattle.sig_blobs.proofs.Loop.{goes_on, ends, is_done, opened}
use Rattle.sig_blobs.proofs.types.+types.Goals as goal

pub type_of-returns : goal.type_of-returns
type_of-returns t c =
    rw (opened c.args.room c.args.bytes.now c.of-element.result (omega arith) c.in-len1-up.len_at_least c.of-element.ensures) c.type_behind.ensures

pub types_of-returns-in_err-one : goal.types_of-returns-in_err-one
types_of-returns-in_err-one t c =
    let p = err_from_is_err_and c.from_residual.result c.from_residual.ensures.1 in
    rw (p.1, p.2) (ends (type_at c.args.room) c.in_err-one.field-0.0 c.loop.types c.args.count c.loop.counter c.loop.rest.now (types_at (type_at c.args.room) c.args.count c.args.bytes.now) c.loop-test.true c.in_err-one.ensures c.loop.invariant)

pub types_of-loop-preserved : goal.types_of-loop-preserved
types_of-loop-preserved t c =
    rw c.in_ok-push.ensures.ok (goes_on (type_at c.args.room) c.loop.types c.args.count c.loop.counter c.loop.rest.now c.in_ok-one.one c.in_ok-one.after.now (types_at (type_at c.args.room) c.args.count c.args.bytes.now) c.loop-test.true c.in_ok-one.ensures c.loop.invariant)

pub types_of-returns : goal.types_of-returns
types_of-returns t c = is_done (type_at c.args.room) c.loop.types c.args.count c.loop.counter c.loop.rest.now (types_at (type_at c.args.room) c.args.count c.args.bytes.now) c.loop-test.false c.loop.invariant
