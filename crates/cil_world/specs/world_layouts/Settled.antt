-- Shapes that no cells are looked at for.
use Rattle.std.specs.Prelude.{ℕ, List, [], length, Option, Some, None, not, if◌then◌else◌}
use Rattle.std.specs.Option.{option_and_then, option_map}
use Rattle.il_base.specs.declared.ids.TypeId.{TypeId}
use Rattle.il_base.specs.declared.world_model.expr.TypeExpr.{TypeExpr, out-TypeExpr}
use Rattle.il_base.specs.declared.world_model.expr.TypeExpr.TheOpen.{TypeExpr-F}
use Rattle.il_base.specs.declared.world_model.record.AsmRec.{AsmRec}
use Rattle.rules.specs.link_rules.Members.{type_home}
use Rattle.il_base.specs.declared.cil_values.layout.Shape.{Shape}
use Rattle.il_base.specs.declared.cil_values.layout.Shape.TheVariants.{Reference as reference, Pointer as pointer, TypeHandle as type_handle, FieldHandle as field_handle, NoValue as no_value}
use Rattle.rules.specs.step_rules.Closing.{takes}
use Rattle.rules.specs.view_rules.Methods.{head_query}
use Rattle.rules.specs.view_rules.Layouts.{prim_shape, number_in, first_or_none}
use Rattle.cil_world.specs.declared.world_layouts.kinds.Handle.{Handle}
use Rattle.cil_world.specs.declared.world_layouts.kinds.Handle.TheVariants as handle
use Rattle.cil_world.specs.declared.world_layouts.kinds.TypeKind.{TypeKind}
use Rattle.cil_world.specs.world_layouts.Kinds.{kind_at}
use Rattle.cil_world.specs.world_layouts.Fields.{numbered_cell}

abbrev pub number_of : TypeExpr → Option Shape
number_of e = number_in (out-TypeExpr e)

-- an enum as the number of its first instance field
unfoldable pub enum_of : List AsmRec → List TypeExpr → List ℕ → Option Shape
enum_of recs args fields = option_and_then number_of (option_and_then (numbered_cell recs args) (first_or_none fields))

abbrev pub handle_shape : Option Handle → Option Shape
handle_shape None = None
handle_shape (Some handle.OfType) = Some type_handle
handle_shape (Some handle.OfField) = Some field_handle

abbrev pub or_handle : Option Shape → Option Handle → Option Shape
or_handle None h = handle_shape h
or_handle (Some s) h = Some s

-- of a type definition, with these arguments; None for a struct, whose shape is that of its cells
unfoldable pub settled_kind : List AsmRec → TypeId → List TypeExpr → TypeKind → Option Shape
settled_kind recs t args k =
    if not k.value then Some reference
    else if not (takes (head_query recs t.0) (length args)) then Some no_value
    else or_handle (if k.enumeration then enum_of recs args k.fields else None) k.handle

abbrev pub settled_home : List AsmRec → TypeId → List TypeExpr → Option TypeKind → Option Shape
settled_home recs t args None = Some no_value
settled_home recs t args (Some k) = settled_kind recs t args k

abbrev pub kind_of : List AsmRec → TypeId → Option TypeKind
kind_of recs t = option_map (kind_at recs) (type_home recs t)

abbrev pub settled_in : List AsmRec → TypeExpr-F TypeExpr → Option Shape
settled_in recs (TypeExpr-F.Prim n) = Some (prim_shape n)
settled_in recs (TypeExpr-F.Def t) = settled_home recs t [] (kind_of recs t)
settled_in recs (TypeExpr-F.Inst t args) = settled_home recs t args (kind_of recs t)
settled_in recs (TypeExpr-F.Array x) = Some reference
settled_in recs (TypeExpr-F.ByRef x) = Some pointer
settled_in recs _ = Some no_value

unfoldable pub settled : List AsmRec → TypeExpr → Option Shape
settled recs e = settled_in recs (out-TypeExpr e)

abbrev pub fields_of_kind : Option TypeKind → List ℕ
fields_of_kind None = []
fields_of_kind (Some k) = k.fields

abbrev pub definition_in : TypeExpr-F TypeExpr → Option TypeId
definition_in (TypeExpr-F.Def t) = Some t
definition_in (TypeExpr-F.Inst t args) = Some t
definition_in _ = None

-- the instance fields of the definition that a type names, by their ids
unfoldable pub fields_of : List AsmRec → TypeExpr → List ℕ
fields_of recs e = fields_of_kind (option_and_then (kind_of recs) (definition_in (out-TypeExpr e)))
