-- States, and what a step comes to, under new numbers. Objects and frames keep their numbers, and none is dropped. An object loses
-- the cells of fields that aren't kept.
use Rattle.std.specs.Prelude.{List, map, Bool, true}
use Rattle.il_base.specs.declared.world_model.expr.TypeExpr.{TypeExpr}
use Rattle.il_base.specs.declared.cil_values.value.Value.{Value}
use Rattle.il_base.specs.declared.cil_values.object.Obj.{Obj}
use Rattle.il_base.specs.declared.cil_values.object.Obj.TheVariants as object
use Rattle.il_base.specs.declared.cil_values.end.End.{End}
use Rattle.il_base.specs.declared.cil_values.end.End.TheVariants.{Stopped, Stuck}
use Rattle.il_base.specs.declared.cil_values.layout.Cell.{Cell}
use Rattle.il_base.specs.declared.cil_values.layout.Layout.{Layout}
use Rattle.il_base.specs.declared.cil_values.layout.Cell.TheVariants.{Field as of_field}
use Rattle.rules.specs.step_rules.Queries.{Queries}
use Rattle.il_base.specs.declared.cil_values.state.State.{State}
use Rattle.il_base.specs.declared.cil_values.frame.Frame.{Frame}
use Rattle.il_base.specs.declared.cil_values.frame.Prefix.{Prefix}
use Rattle.il_base.specs.declared.cil_values.frame.Waits.{Waits}
use Rattle.il_base.specs.declared.cil_values.state.Global.{Global}
use Rattle.il_base.specs.declared.cil_values.state.Started.{Started}
use Rattle.il_base.specs.declared.cil_values.frame.Prefix.TheVariants.{Constrained as constrained}
use Rattle.il_base.specs.declared.cil_values.frame.Waits.TheVariants.{Starts as starts, Opens as opens, Core as core}
use Rattle.rules.specs.step_rules.Next.{Next, went, over}
use Rattle.rules.specs.change_rules.Keeping.{keep}
use Rattle.rules.specs.change_rules.Change.{Rho, Keep, Change}
use Rattle.rules.specs.change_rules.Moves.{move_item, move_method_id, move_expr, move_use, move_value, move_values}

-- ---- cells

-- the two cells of every exception, its message and its inner exception, always stay
abbrev pub keeps_cell : Keep → Cell → Bool
keeps_cell k (of_field f) = k.field f
keeps_cell k _ = true

abbrev pub keeps_place : Keep → Layout → Bool
keeps_place k l = keeps_cell k l.cell

-- a flag for each cell of an instance
abbrev pub mask : Keep → List Layout → List Bool
mask k = map (keeps_place k)

-- ---- objects

abbrev pub move_cells : Change → Queries → TypeExpr → List Value → List Value
move_cells k q of cells = keep (mask k.keep (q.cells of)) (move_values k.rho cells)

abbrev pub move_obj : Change → Queries → Obj → Obj
move_obj k q (object.Instance of cells) = object.Instance (move_expr k.rho of) (move_cells k q of cells)
move_obj k q (object.Boxed of v) = object.Boxed (move_expr k.rho of) (move_value k.rho v)
move_obj k q (object.Array of cells) = object.Array (move_expr k.rho of) (move_values k.rho cells)
move_obj k q (object.Str units) = object.Str units
move_obj k q (object.TypeOf e) = object.TypeOf (move_expr k.rho e)
move_obj k q (object.Member i e) = object.Member (move_item k.rho i) (move_expr k.rho e)

-- ---- frames

abbrev pub move_prefix : Rho → Prefix → Prefix
move_prefix r (constrained e) = constrained (move_expr r e)
move_prefix r p = p

abbrev pub move_waits : Rho → Waits → Waits
move_waits r (starts e) = starts (move_expr r e)
move_waits r (opens e u) = opens (move_expr r e) (move_use r u)
move_waits r (core c args) = core c (move_values r args)
move_waits r w = w

abbrev pub move_frame : Rho → Frame → Frame
move_frame r f =
    record f { method = move_use r f.method; args = move_values r f.args; locals = move_values r f.locals; stack = move_values r f.stack; prefix = move_prefix r f.prefix; waits = move_waits r f.waits }

-- ---- states

abbrev pub move_global : Rho → Global → Global
move_global r g = record { field = r.field g.field; owner = move_expr r g.owner; value = move_value r g.value }

abbrev pub move_started : Rho → Started → Started
move_started r s = record s { typ = move_expr r s.typ }

abbrev pub move_state : Change → Queries → State → State
move_state k q s =
    record s { heap = map (move_obj k q) s.heap; statics = map (move_global k.rho) s.statics; inits = map (move_started k.rho) s.inits; top = move_frame k.rho s.top; below = map (move_frame k.rho) s.below }

-- ---- what a step comes to

abbrev pub move_end : Rho → End → End
move_end r (Stopped m offset) = Stopped (move_method_id r m) offset
move_end r (Stuck m offset) = Stuck (move_method_id r m) offset
move_end r e = e

-- the same bytes are printed
abbrev pub move_next : Change → Queries → Next → Next
move_next k q (went s bytes) = went (move_state k q s) bytes
move_next k q (over e) = over (move_end k.rho e)
