use Rattle.std.proofs.Common.{◌∙◌, ◌+◌, ◌-◌, length, sym, arith}
use Rattle.resolver.proofs.lemmas.core_names.Ending.{lost, ends_here, is_there, goes_on, goes_round}
use Rattle.resolver.proofs.core_names.forwarding.ends_last.Goals as goal

pub returns-in-None : goal.returns-in-None
returns-in-None c =
    let all = c.args.all.now in
    lost all c.args.namespace.now c.args.name.now (length all - c.loop.counter) (length all - (c.loop.counter + 1)) c.loop.at (omega arith) c.in-None.ensures.lookup.3 ∙ c.loop.invariant

pub returns-in-None-forwarded_to : goal.returns-in-None-forwarded_to
returns-in-None-forwarded_to c =
    let all = c.args.all.now in
    c.is_last_without.ensures
    ∙ ends_here all c.args.namespace.now c.args.name.now (length all - c.loop.counter) (length all - (c.loop.counter + 1)) c.loop.at c.in-Some.rec.now (omega arith) c.in-Some.ensures.lookup.3.0 c.in-Some.ensures.lookup.1 c.in-None-forwarded_to.ensures
    ∙ c.loop.invariant

pub returns-then-has_type : goal.returns-then-has_type
returns-then-has_type c =
    let all = c.args.all.now in
    is_there all c.args.namespace.now c.args.name.now (length all - c.loop.counter) (length all - (c.loop.counter + 1)) c.loop.at c.in-Some.rec.now (omega arith) c.in-Some.ensures.lookup.3.0 c.in-Some.ensures.lookup.1
    (sym c.has_type.ensures ∙ c.if-has_type.true) ∙ c.loop.invariant

pub loop-preserved : goal.loop-preserved
loop-preserved c =
    let all = c.args.all.now in
    goes_on all c.args.namespace.now c.args.name.now (length all - c.loop.counter) (length all - (c.loop.counter + 1)) c.loop.at c.in-Some-forwarded_to.next c.in-Some.rec.now (omega arith) c.in-Some.ensures.lookup.3.0
    c.in-Some.ensures.lookup.1 (sym c.has_type.ensures ∙ c.if-has_type.false) c.in-Some-forwarded_to.ensures ∙ c.loop.invariant

pub returns : goal.returns
returns c =
    let all = c.args.all.now in
    goes_round all c.args.namespace.now c.args.name.now (length all - c.loop.counter) c.loop.at (omega arith) ∙ c.loop.invariant
