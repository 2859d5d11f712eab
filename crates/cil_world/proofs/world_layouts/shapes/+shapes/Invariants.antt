use Rattle.std.proofs.Common.{◌≡◌, ◌+◌, ◌*◌, ◌++◌, drop}
use Rattle.std.specs.Option.{option_map}
use Rattle.rules.specs.view_rules.Layouts.{shape_within}
use Rattle.cil_world.specs.world_layouts.Fields.{numbered_cells}
use Rattle.cil_world.proofs.world_layouts.shapes.+shapes.Given as goal

abbrev pub decreases-shape_within : goal.decreases-shape_within
decreases-shape_within l = 3 * l.depth

abbrev pub decreases-layout_within : goal.decreases-layout_within
decreases-layout_within l = 3 * l.depth + 1

abbrev pub decreases-cells_within : goal.decreases-cells_within
decreases-cells_within l = 3 * l.depth + 2

abbrev pub invariant-cells_within-loop-field : goal.invariant-cells_within-loop-field
invariant-cells_within-loop-field l =
    numbered_cells l.layouts.recs (shape_within l.layouts.recs l.depth) l.args l.fields
    ≡ option_map (λ rest. l.cells ++ rest) (numbered_cells l.layouts.recs (shape_within l.layouts.recs l.depth) l.args (drop l.field-index l.fields))
