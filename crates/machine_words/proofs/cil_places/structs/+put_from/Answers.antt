use Rattle.std.proofs.Common.{◌∙◌, sym, arith}
use Rattle.machine_words.proofs.lemmas.cil_places.Ways.{none_put, fails_put, step_put, end_put}
use Rattle.machine_words.proofs.cil_places.structs.+put_from.Goals as goal

pub returns-then-from-steps : goal.returns-then-from-steps
returns-then-from-steps t c = rw c.in_ok-new.ensures (sym (end_put c.args.steps.now c.args.from c.args.new.now c.args.old.now c.if-from-steps.true))

pub returns-in_default : goal.returns-in_default
returns-in_default t c = sym (none_put c.args.steps.now c.args.from c.args.new.now c.args.old.now c.if-from-steps.false (sym c.in_default.ensures))

pub put_from-requires : goal.put_from-requires
put_from-requires t c = (omega (arith, c.decreases, c.if-from-steps.false), tt)

pub returns-in_default-2 : goal.returns-in_default-2
returns-in_default-2 t c =
    sym (fails_put c.args.steps.now c.args.from c.args.new.now c.args.old.now c.in-Some.inner.now c.if-from-steps.false (sym c.in-Some.ensures)
    (sym c.in_ok-v.ensures ∙ c.in_default-2.is))

pub returns : goal.returns
returns t c =
    rw (step_put c.args.steps.now c.args.from c.args.new.now c.args.old.now c.in-Some.inner.now c.in-Some-2.v c.if-from-steps.false (sym c.in-Some.ensures)
    (sym c.in_ok-v.ensures ∙ c.in-Some-2.is)) c.with_struct-made.ensures
