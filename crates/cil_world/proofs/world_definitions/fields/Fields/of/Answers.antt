use Rattle.cil_world.proofs.lemmas.world_definitions.Asking.{fields_placed}
use Rattle.cil_world.proofs.world_definitions.fields.Fields.of.Goals as goal

pub invariant_of-result : goal.invariant_of-result
invariant_of-result c = λ n. fields_placed c.args.marker.now.tables.world.now.recs c.as_slice.result.now c.as_slice.ensures n c.in_ok-rows.rows.items c.in_ok-rows.ensures
