use Rattle.std.proofs.Common.{ap, ◌∙◌}
use Rattle.cil_world.specs.world_definitions.Fields.{first_by}
use Rattle.cil_world.proofs.lemmas.world_definitions.Bytes.{first_found}
use Rattle.cil_world.proofs.world_definitions.field_rows.first_in.Goals as goal

pub returns : goal.returns
returns c = c.in_ok-first.ensures ∙ ap first_by c.row_with-row.ensures ∙ first_found c.args.token c.args.rec.now.field_rva
