use Rattle.value_flow.specs.body_graph.Methods.{setting_in}
use Rattle.value_flow.proofs.Looping.{all_listed}
use Rattle.value_flow.proofs.sources.sources_of.Goals as goal

pub returns : goal.returns
returns c =
    all_listed c.args.m.now.world.now.recs (setting_in c.args.m.now) c.args.owner _ c.add_new.new.sources c.add_new-2.new.sources c.add_params.new.sources c.add_code.new.sources c.in-Ok.params
    c.new-sources.ensures c.in-Ok.ensures.1 c.in_ok-add_new.ensures c.in_ok-add_new-2.ensures c.in_ok-add_params.ensures c.in_ok-add_code.ensures
