use Rattle.std.proofs.Common.{◌≡◌, ◌++◌, drop}
use Rattle.cil_world.specs.world_definitions.Fields.{fields_with_rows}
use Rattle.cil_world.proofs.world_definitions.field_rows.fields_with_rows.Given as goal

abbrev pub invariant-loop-row : goal.invariant-loop-row
invariant-loop-row l = l.keys.items ++ fields_with_rows (drop l.row-index l.rows) ≡ fields_with_rows l.rows
