-- Types, places and values under new numbers.
use Rattle.std.specs.Prelude.{List, map}
use Rattle.il_base.specs.declared.ids.TypeId.{TypeId}
use Rattle.il_base.specs.declared.ids.MethodId.{MethodId}
use Rattle.il_base.specs.declared.ids.FieldId.{FieldId}
use Rattle.il_base.specs.declared.ids.Item.{Item}
use Rattle.il_base.specs.declared.ids.Item.TheVariants as item
use Rattle.il_base.specs.declared.world_model.expr.TypeExpr.{TypeExpr, fold-TypeExpr}
use Rattle.il_base.specs.declared.world_model.expr.TypeExpr.TheOpen.{TypeExpr-F}
use Rattle.il_base.specs.declared.world_model.expr.TypeExpr as expr
use Rattle.il_base.specs.declared.world_model.expr.MethodUse.{MethodUse}
use Rattle.il_base.specs.declared.world_model.expr.FieldUse.{FieldUse}
use Rattle.il_base.specs.declared.cil_values.value.Value.{Value, fold-Value}
use Rattle.il_base.specs.declared.cil_values.value.Value.TheOpen.{Value-F}
use Rattle.il_base.specs.declared.cil_values.value.Value.TheVariants as value
use Rattle.il_base.specs.declared.cil_values.path.Path.{Path}
use Rattle.il_base.specs.declared.cil_values.path.Root.{Root}
use Rattle.il_base.specs.declared.cil_values.path.Root.TheVariants as root
use Rattle.rules.specs.change_rules.Change.{Rho}

-- ---- numbers

abbrev pub move_type : Rho → TypeId → TypeId
move_type r t = record { 0 = r.typ t.0 }

abbrev pub move_method_id : Rho → MethodId → MethodId
move_method_id r m = record { 0 = r.method m.0 }

abbrev pub move_field_id : Rho → FieldId → FieldId
move_field_id r f = record { 0 = r.field f.0 }

abbrev pub move_item : Rho → Item → Item
move_item r (item.Typ t) = item.Typ (move_type r t)
move_item r (item.Method m) = item.Method (move_method_id r m)
move_item r (item.Field f) = item.Field (move_field_id r f)
move_item r i = i

-- ---- types

abbrev pub move_layer : Rho → TypeExpr-F TypeExpr → TypeExpr
move_layer r (TypeExpr-F.Prim n) = expr.Prim n
move_layer r (TypeExpr-F.Def t) = expr.Def (move_type r t)
move_layer r (TypeExpr-F.Inst t args) = expr.Inst (move_type r t) args
move_layer r (TypeExpr-F.Array x) = expr.Array x
move_layer r (TypeExpr-F.ByRef x) = expr.ByRef x
move_layer r (TypeExpr-F.Var n) = expr.Var n
move_layer r (TypeExpr-F.MVar n) = expr.MVar n
move_layer r (TypeExpr-F.Mod required by x) = expr.Mod required (move_type r by) x

unfoldable pub move_expr : Rho → TypeExpr → TypeExpr
move_expr r = fold-TypeExpr TypeExpr (move_layer r)

abbrev pub move_exprs : Rho → List TypeExpr → List TypeExpr
move_exprs r = map (move_expr r)

abbrev pub move_use : Rho → MethodUse → MethodUse
move_use r u = record { method = move_method_id r u.method; owner = move_expr r u.owner; args = move_exprs r u.args }

abbrev pub move_field_use : Rho → FieldUse → FieldUse
move_field_use r u = record { field = move_field_id r u.field; owner = move_expr r u.owner }

-- ---- places and values: numbers of frames and objects stay, and the numbers of cells on the way into structs

abbrev pub move_root : Rho → Root → Root
move_root r (root.Field a f) = root.Field a (move_field_id r f)
move_root r (root.Static f owner) = root.Static (move_field_id r f) (move_expr r owner)
move_root r p = p

abbrev pub move_path : Rho → Path → Path
move_path r p = record { root = move_root r p.root; steps = p.steps; of = move_expr r p.of }

abbrev pub move_value_layer : Rho → Value-F Value → Value
move_value_layer r Value-F.Null = value.Null
move_value_layer r (Value-F.I4 n) = value.I4 n
move_value_layer r (Value-F.I8 n) = value.I8 n
move_value_layer r (Value-F.Native n) = value.Native n
move_value_layer r (Value-F.Object a) = value.Object a
move_value_layer r (Value-F.Pointer p) = value.Pointer (move_path r p)
move_value_layer r (Value-F.Struct of cells) = value.Struct (move_expr r of) cells
move_value_layer r (Value-F.Handle e) = value.Handle (move_expr r e)
move_value_layer r (Value-F.FieldHandle f) = value.FieldHandle (move_field_id r f)

unfoldable pub move_value : Rho → Value → Value
move_value r = fold-Value Value (move_value_layer r)

abbrev pub move_values : Rho → List Value → List Value
move_values r = map (move_value r)
