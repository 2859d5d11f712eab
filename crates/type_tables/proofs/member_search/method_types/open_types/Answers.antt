use Rattle.std.proofs.Common.{ap, ◌∙◌}
use Rattle.il_base.specs.world_model.Worlds.{all_known}
use Rattle.rules.specs.link_rules.Signatures.{names_at}
use Rattle.type_tables.proofs.lemmas.member_search.MethodTypes.{types_at}
use Rattle.type_tables.proofs.member_search.method_types.open_types.Goals as goal

pub returns : goal.returns
returns c =
    let scope = c.args.scope.now in
    c.in_ok-args.ensures
    ∙ ap all_known (types_at scope.linked.all.now scope.linked.links.now scope.asm (names_at scope.linked.all.now scope.asm scope.rec.now) (c.requires.linked.signatures scope.asm scope.rec.now c.requires.here) c.args.sigs.now)
