use Rattle.std.proofs.Common.{◌≡◌, ◌++◌, drop}
use Rattle.cil_world.specs.world_layouts.Cells.{cells_of_fields}
use Rattle.cil_world.proofs.world_layouts.cells.add_fields.Given as goal

abbrev pub invariant-loop-field : goal.invariant-loop-field
invariant-loop-field l = l.cells ++ cells_of_fields l.layouts.recs l.args (drop l.field-index l.fields) ≡ l.initial.cells ++ cells_of_fields l.layouts.recs l.args l.fields
