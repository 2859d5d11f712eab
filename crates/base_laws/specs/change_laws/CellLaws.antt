-- The laws on cells of instances, of which those of fields that aren't kept go.
use Rattle.std.specs.Prelude.{◌≡◌, List, IsTrue}
use Rattle.std.specs.Option.{option_map}
use Rattle.il_base.specs.declared.world_model.expr.TypeExpr.{TypeExpr}
use Rattle.il_base.specs.declared.cil_values.value.Value.{Value}
use Rattle.il_base.specs.declared.cil_values.layout.Cell.{Cell}
use Rattle.rules.specs.step_rules.Queries.{Queries}
use Rattle.rules.specs.step_rules.Stores.{zeros_of}
use Rattle.rules.specs.step_rules.Places.{cell_of, with_cell}
use Rattle.rules.specs.change_rules.Change.{Change}
use Rattle.rules.specs.change_rules.Moves.{move_expr, move_value}
use Rattle.rules.specs.change_rules.Answers.{move_cell}
use Rattle.rules.specs.change_rules.States.{keeps_cell, move_cells}
use Rattle.rules.specs.change_rules.Keeps.{keeps_expr}
use Rattle.rules.specs.change_rules.Agree.{Agree}

abbrev pub CellsRead : Type 0
CellsRead = (k : Change) (after before : Queries) → Agree k after before → (e : TypeExpr) (cells : List Value) (c : Cell)
    → IsTrue (keeps_expr k.keep e) → IsTrue (keeps_cell k.keep c)
    → cell_of after (move_expr k.rho e) (move_cells k before e cells) (move_cell k.rho c) ≡ option_map (move_value k.rho) (cell_of before e cells c)

abbrev pub CellsWritten : Type 0
CellsWritten = (k : Change) (after before : Queries) → Agree k after before → (e : TypeExpr) (cells : List Value) (c : Cell) (v : Value)
    → IsTrue (keeps_expr k.keep e) → IsTrue (keeps_cell k.keep c)
    → with_cell after (move_expr k.rho e) (move_cells k before e cells) (move_cell k.rho c) (move_value k.rho v) ≡ option_map (move_cells k before e) (with_cell before e cells c v)

abbrev pub ZerosMove : Type 0
ZerosMove = (k : Change) (after before : Queries) → Agree k after before → (e : TypeExpr) → IsTrue (keeps_expr k.keep e)
    → zeros_of (after.cells (move_expr k.rho e)) ≡ move_cells k before e (zeros_of (before.cells e))
