use Rattle.std.proofs.Common.{refl}
use Rattle.reference_rows.proofs.lemmas.reference_scopes.Climbing.{all_put}
use Rattle.reference_rows.proofs.reference_scopes.chains.push_with_scopes.Goals as goal

pub returns : goal.returns
returns c =
    all_put c.args.references.now.index.now.all.now c.args.most c.args.id c.in_ok-top.top c.args.types.now.items c.push.new.self.items c.put_back.new.types.items c.new-inner.result.items c.climb.new.inner.items
    c.climb.new.inner.items c.new-inner.ensures.items c.in_ok-top.ensures c.in_ok-push.ensures.items refl c.in_ok-put_back.ensures
