use Rattle.std.proofs.Common.{subst}
use Rattle.il_base.specs.declared.world_model.world.World.{World}
use Rattle.value_flow.specs.Flows.{IsItsGraph}
use Rattle.flow_times.proofs.sources_of.Goals as goal

pub of-requires-2-clause-graph : goal.of-requires-2-clause-graph
of-requires-2-clause-graph c =
    subst (λ (w : World). IsItsGraph w.recs (record { 0 = c.args.m }) c.in-Ok.graph) c.world.ensures c.in-Ok.ensures
