use Rattle.std.proofs.Common.{◌≡◌, drop}
use Rattle.std.specs.List.{find}
use Rattle.il_base.specs.declared.cil_values.layout.Layout.{Layout}
use Rattle.il_base.specs.declared.cil_values.layout.Cell.TheVariants as cell
use Rattle.rules.specs.step_rules.Places.{same_cell}
use Rattle.machine_objects.proofs.cil_fields.cells.layout_of.Given as goal

abbrev pub invariant-loop-one : goal.invariant-loop-one
invariant-loop-one l = find (λ (x : Layout). same_cell (cell.Field l.field) x.cell) (drop l.one-index l.cells) ≡ find (λ (x : Layout). same_cell (cell.Field l.field) x.cell) l.cells
