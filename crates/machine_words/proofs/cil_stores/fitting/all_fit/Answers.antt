use Rattle.std.proofs.Common.{◌∙◌, sym, arith}
use Rattle.machine_words.proofs.lemmas.cil_stores.AllFit.{begins, goes, unfit, short, long, whole}
use Rattle.machine_words.proofs.cil_stores.fitting.all_fit.Goals as goal

pub loop-i-init : goal.loop-i-init
loop-i-init g c = rw c.into_vec-items.ensures (begins (g.Q.Answers.queries c.args.q.now) c.args.types.now c.args.values)

pub returns-then-i-len : goal.returns-then-i-len
returns-then-i-len g c =
    sym (short (g.Q.Answers.queries c.args.q.now) c.args.types.now c.loop-i.items.items c.loop-i.i c.index-types-i.result c.loop-i-test.true (omega (arith, c.if-i-len.true, c.len.ensures)))
    ∙ c.loop-i.invariant

pub returns-in_default : goal.returns-in_default
returns-in_default g c =
    sym (unfit (g.Q.Answers.queries c.args.q.now) c.args.types.now c.loop-i.items.items c.loop-i.i c.index-types-i.result c.replace-v.result
    c.loop-i-test.true (omega (arith, c.if-i-len.false, c.len.ensures)) c.index-types-i.is (let e = c.index_mut.ensures.value in let f = c.replace-v.ensures.value in cc) (sym c.in_ok-kept.ensures ∙ c.in_default.is))
    ∙ c.loop-i.invariant

pub loop-i-preserved : goal.loop-i-preserved
loop-i-preserved g c =
    goes (g.Q.Answers.queries c.args.q.now) c.args.types.now c.loop-i.items.items c.loop-i.i c.index-types-i.result c.replace-v.result c.in-Some.kept c.replace-v.new.dest
    c.loop-i-test.true (omega (arith, c.if-i-len.false, c.len.ensures)) c.index-types-i.is (let e = c.index_mut.ensures.value in let f = c.replace-v.ensures.value in cc) (sym c.in_ok-kept.ensures ∙ c.in-Some.is)
    ∙ c.loop-i.invariant

pub returns-then-types-len : goal.returns-then-types-len
returns-then-types-len g c =
    sym (long (g.Q.Answers.queries c.args.q.now) c.args.types.now c.loop-i.items.items c.loop-i.i c.loop-i.auto.i-end c.loop-i-test.false (omega (arith, c.if-types-len.true, c.len-2.ensures)))
    ∙ c.loop-i.invariant

pub returns : goal.returns
returns g c =
    rw c.from_vec.ensures
    (sym (whole (g.Q.Answers.queries c.args.q.now) c.args.types.now c.loop-i.items.items c.loop-i.i c.loop-i-test.false (omega (arith, c.if-types-len.false, c.len-2.ensures)))
    ∙ c.loop-i.invariant)
