-- Structs as the code has them.
use Rattle.machine_objects.specs.declared.cil_fields.parts.Parts as code
use Rattle.rules.specs.step_rules.Stores.{Parts}

abbrev pub parts_by : code.Parts → Parts
parts_by p = record { of = p.of.now; cells = p.cells.now }
