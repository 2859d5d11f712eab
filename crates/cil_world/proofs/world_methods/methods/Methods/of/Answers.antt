use Rattle.cil_world.proofs.lemmas.world_methods.Asking.{methods_placed}
use Rattle.cil_world.proofs.world_methods.methods.Methods.of.Goals as goal

pub invariant_of-result : goal.invariant_of-result
invariant_of-result c = (
  methods_placed c.args.marker.now.tables.world.now.recs c.as_slice.result.now c.in_ok-rows.rows.items c.in_ok-rows.ensures c.as_slice.ensures,
  rw c.as_slice-2.ensures.value at c.in_ok-places.ensures,
)
