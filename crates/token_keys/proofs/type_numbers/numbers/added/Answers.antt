use Rattle.std.proofs.Common.{◌∙◌}
use Rattle.il_base.specs.world_model.Worlds.{added_link_at}
use Rattle.mark_parts.specs.mark_tables.Assemblies.{recs_of, place_of, rec_of}
use Rattle.token_keys.proofs.lemmas.type_numbers.Added.{added_here}
use Rattle.token_keys.proofs.type_numbers.numbers.added.Goals as goal

pub returns : goal.returns
returns c =
    let asm = c.args.asm.now in
    c.added_link_at.ensures
    ∙ (λ i. added_link_at (c.as_slice.ensures i) (c.as_slice-2.ensures i) asm.scope.asm c.args.token)
    ∙ added_here asm.world.now (recs_of asm) (place_of asm) (rec_of asm) c.args.token c.requires.world c.requires.recs c.requires.scope.here
