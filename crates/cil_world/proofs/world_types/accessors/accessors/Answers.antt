use Rattle.std.proofs.Common.{◌∙◌}
use Rattle.cil_world.proofs.lemmas.world_types.AccessorRows.{accessors_found}
use Rattle.cil_world.proofs.world_types.accessors.accessors.Goals as goal

pub returns : goal.returns
returns c =
    (rw (c.rows_with-rows.ensures, c.in_ok-token.ensures) at c.in_ok-found.ensures)
    ∙ accessors_found c.args.rec.now c.args.tables.now c.requires.are c.args.flag c.args.property
