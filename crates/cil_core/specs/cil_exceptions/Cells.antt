-- Cells that constructors of exceptions change.
use Rattle.std.specs.Prelude.{ℕ, List, Option, slice_get, slice_set}
use Rattle.std.specs.Option.{option_map, option_and_then}
use Rattle.il_base.specs.declared.cil_values.value.Value.{Value}
use Rattle.il_base.specs.declared.cil_values.object.Obj.{Obj}
use Rattle.il_base.specs.declared.cil_values.layout.Cell.{Cell}
use Rattle.rules.specs.step_rules.Queries.{Queries}
use Rattle.rules.specs.step_rules.Places.{put_cell_in}

-- the objects with another value in a cell of one
abbrev pub new_heap : Queries → Cell → Value → List Obj → ℕ → Option (List Obj)
new_heap q c v heap at = option_map (λ o. slice_set heap at o) (option_and_then (put_cell_in q c v) (slice_get heap at))
