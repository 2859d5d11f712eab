-- The answers of a world, and what a step makes of them, under new numbers of types, methods and fields.
use Rattle.std.specs.Prelude.{map}
use Rattle.std.specs.Option.{option_map}
use Rattle.il_base.specs.world_model.Worlds.{known_map}
use Rattle.il_base.specs.declared.cil_values.resolved.Use.{Use}
use Rattle.il_base.specs.declared.cil_values.resolved.Instruction.{Instruction}
use Rattle.il_base.specs.declared.cil_values.resolved.Clause.{Clause}
use Rattle.il_base.specs.declared.cil_values.resolved.Code.{Code}
use Rattle.il_base.specs.declared.cil_values.definition.Signature.{Signature}
use Rattle.il_base.specs.declared.cil_values.definition.Method.{Method}
use Rattle.il_base.specs.declared.cil_values.definition.FieldDef.{FieldDef}
use Rattle.il_base.specs.declared.cil_values.layout.Cell.{Cell}
use Rattle.il_base.specs.declared.cil_values.layout.Layout.{Layout}
use Rattle.il_base.specs.declared.cil_values.layout.Shape.{Shape}
use Rattle.il_base.specs.declared.cil_values.resolved.Use.TheVariants.{Typ as typ, Method as method, Field as field}
use Rattle.il_base.specs.declared.cil_values.layout.Cell.TheVariants.{Field as of_field}
use Rattle.il_base.specs.declared.cil_values.layout.Shape.TheVariants.{Structure as structure}
use Rattle.rules.specs.step_rules.Words.{Here}
use Rattle.rules.specs.step_rules.Closing.{Callee, Accessed}
use Rattle.rules.specs.step_rules.Stores.{Parts, Access, by_type}
use Rattle.rules.specs.change_rules.Change.{Rho}
use Rattle.rules.specs.change_rules.Moves.{move_expr, move_exprs, move_use, move_field_use, move_value, move_values}

-- ---- methods and fields

abbrev pub move_operand : Rho → Use → Use
move_operand r (typ e) = typ (known_map (move_expr r) e)
move_operand r (method u) = method (known_map (move_use r) u)
move_operand r (field u) = field (known_map (move_field_use r) u)
move_operand r u = u

abbrev pub move_instruction : Rho → Instruction → Instruction
move_instruction r i = record i { operand = move_operand r i.operand }

abbrev pub move_clause : Rho → Clause → Clause
move_clause r c = record c { caught = known_map (move_expr r) c.caught }

abbrev pub move_code : Rho → Code → Code
move_code r c = record { locals = known_map (move_exprs r) c.locals; code = map (move_instruction r) c.code; clauses = map (move_clause r) c.clauses }

abbrev pub move_signature : Rho → Signature → Signature
move_signature r s = record s { params = move_exprs r s.params; ret = move_expr r s.ret }

abbrev pub move_method : Rho → Method → Method
move_method r m =
    record m { owner = r.typ m.owner; signature = known_map (move_signature r) m.signature; body = option_map (known_map (move_code r)) m.body }

abbrev pub move_field : Rho → FieldDef → FieldDef
move_field r f = record f { typ = known_map (move_expr r) f.typ }

-- ---- closed types

abbrev pub move_cell : Rho → Cell → Cell
move_cell r (of_field f) = of_field (r.field f)
move_cell r c = c

abbrev pub move_layout : Rho → Layout → Layout
move_layout r l = record { cell = move_cell r l.cell; typ = move_expr r l.typ; zero = move_value r l.zero }

abbrev pub move_shape : Rho → Shape → Shape
move_shape r (structure cells) = structure (map (move_layout r) cells)
move_shape r s = s

-- ---- what a step makes of them

abbrev pub move_here : Rho → Here → Here
move_here r h = record { method = move_method r h.method; code = move_code r h.code; targs = move_exprs r h.targs; margs = move_exprs r h.margs }

abbrev pub move_callee : Rho → Callee → Callee
move_callee r c = record { called = move_use r c.called; method = move_method r c.method; signature = move_signature r c.signature }

abbrev pub move_accessed : Rho → Accessed → Accessed
move_accessed r a = record { id = r.field a.id; owner = move_expr r a.owner; field = move_field r a.field }

abbrev pub move_parts : Rho → Parts → Parts
move_parts r p = record { of = move_expr r p.of; cells = move_values r p.cells }

abbrev pub move_access : Rho → Access → Access
move_access r (by_type e) = by_type (move_expr r e)
move_access r a = a
