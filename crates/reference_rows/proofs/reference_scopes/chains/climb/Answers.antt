use Rattle.std.proofs.Common.{sym, ◌∙◌, arith}
use Rattle.reference_rows.proofs.lemmas.reference_scopes.Climbing.{climb_next, climb_last, climb_end}
use Rattle.reference_rows.proofs.reference_scopes.chains.climb.Goals as goal

pub returns-in-Ok-None : goal.returns-in-Ok-None
returns-in-Ok-None c =
    let a = c.in-Ok-None in
    climb_last c.args.references.now.index.now.all.now c.args.most c.loop-i.i c.loop-i.at c.loop-i.inner.items _ (omega arith) (sym a.ensures ∙ a.field-0-is) c.loop-i.invariant

pub loop-i-preserved : goal.loop-i-preserved
loop-i-preserved c =
    let a = c.in-Ok-Some in
    climb_next c.args.references.now.index.now.all.now c.args.most c.loop-i.i c.loop-i.at a.around c.loop-i.inner.items c.push.new.self.items _ (omega arith) (sym a.ensures ∙ a.field-0-is) c.in_ok-push-in-Ok-Some.ensures.items c.loop-i.invariant

pub returns : goal.returns
returns c = climb_end c.args.references.now.index.now.all.now c.args.most c.loop-i.i c.loop-i.at c.loop-i.inner.items _ (omega arith) c.loop-i.invariant
