use Rattle.value_flow.specs.body_graph.Methods.{setting_in}
use Rattle.value_flow.proofs.Flowing.{within, reached_exactly}
use Rattle.value_flow.proofs.flow.reached_of.Goals as goal

pub of-requires : goal.of-requires
of-requires c = within c.args.m.now.world.now.recs (setting_in c.args.m.now) c.args.owner c.args.graph.now.depths c.in_ok-flow.flow c.in_ok-flow.ensures

pub returns : goal.returns
returns c =
    reached_exactly c.args.m.now.world.now.recs (setting_in c.args.m.now) c.args.owner c.args.graph.now.depths c.in_ok-flow.flow c.in_ok-flow.ensures c.in_ok-reached.reached c.in_ok-reached.ensures
