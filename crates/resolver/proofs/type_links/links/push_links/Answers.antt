use Rattle.std.proofs.Common.{ap, ◌∙◌, List, ◌++◌}
use Rattle.il_base.specs.declared.world_model.world.TypeLink.{TypeLink}
use Rattle.base_laws.specs.link_laws.Parts.{refs_of, defs_of}
use Rattle.resolver.proofs.lemmas.type_links.Pushing.{tells_before, whole_links}
use Rattle.resolver.proofs.type_links.links.push_links.Goals as goal

pub push_specs-requires : goal.push_specs-requires
push_specs-requires c = λ more.
    let all = c.args.index.now.all.now in
    tells_before all c.args.a c.args.rec.now c.requires.stands c.push_defs.new.links.items more
    (c.in_ok-push_defs.ensures ∙ ap (λ (xs : List TypeLink). xs ++ defs_of all c.args.a c.args.rec.now)
    (c.in_ok-push_refs.ensures ∙ ap (λ (xs : List TypeLink). xs ++ refs_of all c.args.a c.args.rec.now) c.requires.before))

pub returns : goal.returns
returns c =
    whole_links c.args.index.now.all.now c.args.a c.args.rec.now c.args.links.now.items c.push_refs.new.links.items c.push_defs.new.links.items c.push_specs.new.links.items
    c.in_ok-push_refs.ensures c.in_ok-push_defs.ensures c.in_ok-push_specs.ensures
