use Rattle.reference_rows.proofs.lemmas.reference_scopes.Climbing.{back_next}
use Rattle.reference_rows.proofs.reference_scopes.chains.put_back.Goals as goal

pub loop-id-preserved : goal.loop-id-preserved
loop-id-preserved c =
    back_next c.loop-id.left.items c.pop.new.self.items c.loop-id.types.items c.push.new.self.items _ c.in-Some.id c.in-Some.ensures.items c.in_ok-push.ensures.items c.loop-id.invariant
