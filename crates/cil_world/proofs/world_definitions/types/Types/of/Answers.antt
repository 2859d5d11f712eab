use Rattle.cil_world.proofs.lemmas.world_definitions.Asking.{heads_placed, starts_placed, makers_placed, enclosers_placed}
use Rattle.cil_world.proofs.world_definitions.types.Types.of.Goals as goal

pub invariant_of-result : goal.invariant_of-result
invariant_of-result c = (
  λ n. heads_placed c.args.marker.now.tables.world.now.recs c.as_slice.result.now c.as_slice.ensures n c.in_ok-heads.heads.items c.in_ok-heads.ensures,
  λ n. starts_placed c.args.marker.now.tables.world.now.recs c.as_slice-2.result.now c.as_slice-2.ensures n c.in_ok-starts.starts.items c.in_ok-starts.ensures,
  λ n. makers_placed c.args.marker.now.tables.world.now.recs c.as_slice-3.result.now c.as_slice-3.ensures n c.in_ok-makers.makers.items c.in_ok-makers.ensures,
  λ n. enclosers_placed c.args.marker.now.tables.world.now.recs c.as_slice-4.result.now c.as_slice-4.ensures n c.in_ok-enclosers.enclosers.items c.in_ok-enclosers.ensures,
)
