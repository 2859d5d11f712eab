-- How a run begins, as the code has it.
use Rattle.rules.specs.step_rules.Run.{Beginning, begins, ends}
use Rattle.cil_machine.specs.declared.beginning.Beginning as code
use Rattle.cil_machine.specs.declared.beginning.Beginning.TheVariants.{Begins, Ends}

abbrev pub beginning_by : code.Beginning → Beginning
beginning_by (Begins s) = begins s
beginning_by (Ends e) = ends e
