use Rattle.base_laws.specs.link_laws.Parts.{def_link}
use Rattle.resolver.proofs.lemmas.type_links.Pushing.{ranged_more}
use Rattle.resolver.proofs.type_links.links.push_defs.Goals as goal

pub loop-k-preserved : goal.loop-k-preserved
loop-k-preserved c =
    ranged_more (def_link c.args.all.now c.args.a) c.args.links.now.items c.loop-k.links.items c.push.new.self.items c.loop-k.k c.in_ok-link.link
    c.loop-k.invariant c.in_ok-push.ensures.items c.in_ok-link.ensures
