use Rattle.std.proofs.Common.{◌++◌, ◌+◌, ◌∷◌, [], ap, sym, subst, ◌∙◌, List, None, take, arith}
use Rattle.std.proofs.lemmas.List.{take_all}
use Rattle.il_base.specs.declared.world_model.world.TypeLink.{TypeLink}
use Rattle.rules.specs.link_rules.Faults.{numbered}
use Rattle.rules.specs.link_rules.Linked.{type_link}
use Rattle.base_laws.specs.link_laws.Parts.{spec_link}
use Rattle.resolver.specs.type_links.Linking.{TellsSignatures}
use Rattle.resolver.proofs.lemmas.type_links.Pushing.{numbered_more, one_more}
use Rattle.resolver.proofs.type_links.links.push_specs.Goals as goal

pub spec_type-requires : goal.spec_type-requires
spec_type-requires c =
    let all = c.args.all.now in
    subst (λ (links : List TypeLink). TellsSignatures all links c.args.a c.args.rec.now) (sym (c.as_slice.ensures.value ∙ c.loop-k.invariant))
    (c.requires (numbered (spec_link all c.args.a c.args.rec.now) 0 (take c.loop-k.k c.as_slice-row-items.result.now)))

pub returns : goal.returns
returns c =
    c.loop-k.invariant ∙ ap (λ (rows : _). c.args.links.now.items ++ numbered (spec_link c.args.all.now c.args.a c.args.rec.now) 0 rows)
    (take_all c.loop-k.k c.as_slice-row-items.result.now (omega arith) ∙ c.as_slice-row-items.ensures)

pub loop-k-preserved : goal.loop-k-preserved
loop-k-preserved c =
    let link = spec_link c.args.all.now c.args.a c.args.rec.now in
    let rows = c.as_slice-row-items.result.now in
    let k = c.loop-k.k in
    one_more c.args.links.now.items c.loop-k.links.items (numbered link 0 (take k rows)) c.push.new.self.items (link k c.row-item.result) c.loop-k.invariant
    (c.in_ok-push.ensures.items ∙ ap (λ (l : TypeLink). c.loop-k.links.items ++ l ∷ []) (c.in_ok-link.ensures ∙ ap (λ (to : _). type_link c.args.a 0x1b k to None) c.in_ok-to.ensures))
    (numbered link 0 (take (k + 1) rows)) (numbered_more link rows k c.row-item.result (omega arith) c.row-item.is)
