use Rattle.rules.specs.step_rules.Types.{box}
use Rattle.machine_objects.proofs.cil_types.boxes.box_value.Goals as goal

pub returns : goal.returns
unfolding box
returns g c = c.in_ok-out.ensures
