use Rattle.std.proofs.Common.{◌++◌, ap, sym, ◌∙◌, ℕ, List, arith}
use Rattle.il_base.specs.declared.world_model.world.TypeLink.{TypeLink}
use Rattle.rules.specs.link_rules.Linked.{types_of}
use Rattle.resolver.proofs.lemmas.type_links.Pushing.{links_more}
use Rattle.resolver.proofs.type_links.index.TypeIndex.type_links.Goals as goal

pub loop-a-preserved : goal.loop-a-preserved
loop-a-preserved c =
    let all = c.args.self.now.all.now in
    let rec = c.rec-item.result in
    c.in_ok-push_links.ensures ∙ ap (λ (n : ℕ). c.loop-a.links.items ++ types_of all n rec) c.in_ok-a.ensures
    ∙ ap (λ (xs : List TypeLink). xs ++ types_of all c.loop-a.a rec) c.loop-a.invariant ∙ sym (links_more all c.loop-a.a rec (omega arith) c.rec-item.is)
