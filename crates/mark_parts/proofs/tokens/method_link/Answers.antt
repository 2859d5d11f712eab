use Rattle.std.proofs.Common.{ap, ◌∙◌}
use Rattle.il_base.specs.world_model.Worlds.{known_or}
use Rattle.mark_parts.specs.mark_tables.Assemblies.{recs_of, place_of, rec_of}
use Rattle.mark_parts.proofs.Links.{method_by_links}
use Rattle.mark_parts.proofs.tokens.method_link.Goals as goal

pub returns : goal.returns
returns c =
    let asm = c.args.asm.now in
    ap known_or c.method_at.ensures
    ∙ method_by_links asm.world.now (recs_of asm) (place_of asm) (rec_of asm) c.args.token c.tokens_named.ensures.methods c.requires.world c.requires.recs c.requires.scope.here
