use Rattle.std.proofs.Common.{◌≤◌, length, reverse, sym, ◌∙◌, arith}
use Rattle.std.proofs.lemmas.List.{length-reverse, reverse-reverse}
use Rattle.machine_frames.proofs.lemmas.cil_throws.Handling.{reason_begins, reason_here, reason_further, reason_nowhere}
use Rattle.machine_frames.proofs.cil_throws.reasons.reason_in.Goals as goal

pub loop-k-init : goal.loop-k-init
loop-k-init c = reason_begins c.args.n (reverse c.args.handlers.now)

pub returns-then-is_of : goal.returns-then-is_of
returns-then-is_of c =
    sym (reason_here c.args.n (reverse c.args.handlers.now) c.args.handlers.now c.loop-k.k c.index-handlers-at.result (reverse-reverse c.args.handlers.now) c.loop-k-test.true c.index-handlers-at.is (sym c.is_of.ensures ∙ c.if-is_of.true))
    ∙ c.loop-k.invariant

pub loop-k-preserved : goal.loop-k-preserved
loop-k-preserved c =
    sym (reason_further c.args.n (reverse c.args.handlers.now) c.args.handlers.now c.loop-k.k c.index-handlers-at.result (reverse-reverse c.args.handlers.now) c.loop-k-test.true c.index-handlers-at.is (sym c.is_of.ensures ∙ c.if-is_of.false))
    ∙ c.loop-k.invariant

pub returns : goal.returns
returns c =
    let past : length (reverse c.args.handlers.now) ≤ c.loop-k.k = omega (arith, length-reverse c.args.handlers.now) in
    sym (reason_nowhere c.args.n (reverse c.args.handlers.now) c.loop-k.k past) ∙ c.loop-k.invariant
