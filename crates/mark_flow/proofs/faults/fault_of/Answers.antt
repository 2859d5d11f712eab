use Rattle.std.proofs.Common.{◌∙◌}
use Rattle.value_flow.specs.body_graph.Methods.{setting_in}
use Rattle.mark_flow.proofs.Flows.{faults_of_graph, faults_of_bad}
use Rattle.mark_flow.proofs.faults.fault_of.Goals as goal

pub returns-in-Err-Bad : goal.returns-in-Err-Bad
returns-in-Err-Bad c = faults_of_bad c.args.m.now.world.now.recs (setting_in c.args.m.now) c.args.owner (rw c.in-Err-Bad.field-0-is at c.in-Err-Bad.ensures)

pub returns-in_ok-fault-in-Ok : goal.returns-in_ok-fault-in-Ok
returns-in_ok-fault-in-Ok c =
    c.in_ok-fault-in-Ok.ensures ∙ faults_of_graph c.args.m.now.world.now.recs (setting_in c.args.m.now) c.args.owner c.in-Ok.graph c.in-Ok.ensures
