use Rattle.std.proofs.Common.{ℕ, ap, ◌∙◌}
use Rattle.rules.specs.link_rules.Members.{field_def_use}
use Rattle.rules.specs.link_rules.Linked.{field_link}
use Rattle.resolver.proofs.lemmas.member_links.Linking.{one_more}
use Rattle.resolver.proofs.member_links.links.push_field_defs.Goals as goal

pub loop-k-preserved : goal.loop-k-preserved
loop-k-preserved c =
    let scope = c.args.scope.now in
    let use_of = λ (k : ℕ). field_def_use scope.linked.all.now scope.asm scope.rec.now k in
    one_more (λ (k : ℕ). field_link scope.asm 0x04 k (use_of k)) c.args.links.now.items c.loop-k.links.items c.push.new.self.items c.loop-k.k c.in_ok-field_link.field-0
    c.in_ok-push.ensures.items
    (c.in_ok-field_link.ensures ∙ ap (field_link scope.asm 0x04 c.loop-k.k) (c.in_ok-to.ensures ∙ ap use_of c.in_ok-row_of.ensures))
    c.loop-k.invariant
