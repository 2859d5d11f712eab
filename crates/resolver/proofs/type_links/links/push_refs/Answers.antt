use Rattle.base_laws.specs.link_laws.Parts.{ref_link}
use Rattle.resolver.proofs.lemmas.type_links.Pushing.{ranged_more}
use Rattle.resolver.proofs.type_links.links.push_refs.Goals as goal

pub loop-k-preserved : goal.loop-k-preserved
loop-k-preserved c =
    ranged_more (ref_link c.args.index.now.all.now c.args.a c.args.rec.now) c.args.links.now.items c.loop-k.links.items c.push.new.self.items c.loop-k.k c.in_ok-link.link
    c.loop-k.invariant c.in_ok-push.ensures.items c.in_ok-link.ensures
