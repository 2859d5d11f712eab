use Rattle.std.proofs.Common.{ap, ◌∙◌}
use Rattle.value_flow.specs.body_graph.Methods.{setting_in}
use Rattle.rules.specs.flow_rules.Flows.{slots_of}
use Rattle.value_flow.proofs.Ending.{work_is}
use Rattle.value_flow.proofs.flow.work_in.Goals as goal

pub returns : goal.returns
returns c =
    work_is c.args.m.now.world.now.recs (setting_in c.args.m.now) c.args.owner c.args.graph.now.depths c.in_ok-slots.slots c.in_ok-sources.sources c.work_of.result
    (c.in_ok-slots.ensures ∙ ap (slots_of (setting_in c.args.m.now)) c.depths.ensures) c.in_ok-sources.ensures (rw (c.len.ensures, c.len-2.ensures) at c.work_of.ensures)
