-- The contents of places of closed types (I.12.1, II.10.1.2, II.13): shapes, the cells of objects, and their initial values.
use Rattle.std.specs.Prelude.{ℕ, zero, suc, ◌+◌, ◌-◌, List, [], ◌∷◌, ◌++◌, length, map, Option, Some, None, slice_get, ◌==◌, ◌&&◌, ◌||◌, Bool, not, reverse, if◌then◌else◌}
use Rattle.std.specs.List.{list_any, flat_map, filter}
use Rattle.std.specs.Option.{option_and_then, option_map}
use Rattle.il_base.specs.declared.element.TheConstants as element
use Rattle.il_base.specs.declared.world_model.known.Known.{Known}
use Rattle.il_base.specs.declared.world_model.known.Known.TheVariants.{Good, Bad}
use Rattle.il_base.specs.declared.world_model.expr.TypeExpr.{TypeExpr, out-TypeExpr, fold-TypeExpr}
use Rattle.il_base.specs.declared.world_model.expr.TypeExpr.TheOpen.{TypeExpr-F}
use Rattle.il_base.specs.declared.world_model.expr.TypeExpr as expr
use Rattle.il_base.specs.declared.world_model.members.FieldRow.{FieldRow}
use Rattle.il_base.specs.declared.world_model.record.AsmRec.{AsmRec}
use Rattle.il_base.specs.world_model.Worlds.{rows_before, type_id}
use Rattle.il_base.specs.declared.core_table.names.CoreName.{CoreName}
use Rattle.il_base.specs.declared.core_table.names.CoreName.TheVariants as core
use Rattle.rules.specs.declared.link_rules.row_at.RowAt.{RowAt}
use Rattle.rules.specs.link_rules.Members.{type_home, fields_in, args_of, with_bases, param_count}
use Rattle.rules.specs.link_rules.Cycles.{listed, home_of, is_value_type}
use Rattle.rules.specs.type_rules.Rows.{rec_at, fields_of_type, is_instance_field, is_enum}
use Rattle.il_base.specs.declared.cil_values.value.Value.{Value}
use Rattle.il_base.specs.declared.cil_values.value.Value as value
use Rattle.il_base.specs.declared.cil_values.layout.Layout.{Layout}
use Rattle.il_base.specs.declared.cil_values.layout.Shape.{Shape}
use Rattle.il_base.specs.declared.cil_values.layout.Cell.TheVariants.{Field as of_field, Message as message, Inner as inner}
use Rattle.il_base.specs.declared.cil_values.layout.Shape.TheVariants.{Reference as reference, Pointer as pointer, Integer as integer, TypeHandle as type_handle, FieldHandle as field_handle, Structure as structure, NoValue as no_value}
use Rattle.rules.specs.view_rules.Members.{core_type_row}
use Rattle.rules.specs.step_rules.Closing.{plain, closed_cell_by}
use Rattle.rules.specs.step_rules.Stores.{zero_shape}
use Rattle.rules.specs.view_rules.Methods.{field_type, field_owner, head_query}

-- ---- definitions

abbrev pub is_core_type : List AsmRec → CoreName → RowAt → Bool
is_core_type recs name at = suc at.asm == length recs && at.row == core_type_row name

abbrev pub fits_params : List AsmRec → RowAt → List TypeExpr → Bool
fits_params recs at args = list_any (λ (rec : AsmRec). param_count rec at.row == length args) (listed (rec_at recs at))

abbrev pub field_number : List AsmRec → RowAt → ℕ
field_number recs at = rows_before fields_in recs at.asm + at.row

-- ---- fields of a closed type

abbrev pub good_type : Known TypeExpr → Option TypeExpr
good_type (Good e) = Some e
good_type (Bad why) = None

abbrev pub own_field_type : List AsmRec → RowAt → AsmRec → FieldRow → Option TypeExpr
own_field_type recs at rec f = good_type (field_type recs at rec (field_owner at rec) f)

-- the closed type of a field, where the type has these arguments; None where it is bad or counts as bad
abbrev pub cell_type : List AsmRec → List TypeExpr → RowAt → Option TypeExpr
cell_type recs args at =
    option_and_then (λ (rec : AsmRec). option_and_then (λ (f : FieldRow). option_and_then (closed_cell_by (head_query recs) args []) (own_field_type recs at rec f)) (slice_get rec.field at.row)) (rec_at recs at)

abbrev pub instance_fields : List AsmRec → RowAt → List RowAt
instance_fields recs at = filter (is_instance_field recs) (fields_of_type recs at)

-- ---- shapes

-- IntPtr, UIntPtr, Boolean, Char and the integers are numbers; Object and String are classes
abbrev pub prim_shape : ℕ → Shape
prim_shape n =
    if n == element.VOID then no_value
    else if n == element.STRING || n == element.OBJECT then reference
    else integer n

abbrev pub layout_by : List AsmRec → (TypeExpr → Shape) → RowAt → TypeExpr → Option Layout
layout_by recs below at e = option_map (λ v. record { cell = of_field (field_number recs at); typ = e; zero = v }) (zero_shape e (below e))

-- the cell of a field; None where the field's type is bad or has no zero value
abbrev pub layout_of : List AsmRec → (TypeExpr → Shape) → List TypeExpr → RowAt → Option Layout
layout_of recs below args at = option_and_then (layout_by recs below at) (cell_type recs args at)

abbrev pub all_there : {A : Type 0} → List (Option A) → Option (List A)
all_there [] = Some []
all_there (None ∷ xs) = None
all_there (Some x ∷ xs) = option_map (λ ys. x ∷ ys) (all_there xs)

abbrev pub struct_shape : Option (List Layout) → Shape
struct_shape None = no_value
struct_shape (Some cells) = structure cells

abbrev pub first_or_none : {A : Type 0} → List A → Option A
first_or_none [] = None
first_or_none (x ∷ xs) = Some x

abbrev pub number_shape : Shape → Option Shape
number_shape (integer n) = Some (integer n)
number_shape _ = None

-- the shape of an integer, Boolean or Char
abbrev pub number_in : TypeExpr-F TypeExpr → Option Shape
number_in (TypeExpr-F.Prim n) = number_shape (prim_shape n)
number_in _ = None

-- An enum whose first instance field is an integer, Boolean or Char is as this; another one is a struct.
abbrev pub enum_shape : List AsmRec → List TypeExpr → RowAt → Option Shape
enum_shape recs args at =
    option_and_then (λ e. number_in (out-TypeExpr e)) (option_and_then (cell_type recs args) (first_or_none (instance_fields recs at)))

abbrev pub value_shape : List AsmRec → (TypeExpr → Shape) → List TypeExpr → RowAt → Shape
value_shape recs below args at =
    if is_core_type recs core.RuntimeTypeHandle at then type_handle
    else if is_core_type recs core.RuntimeFieldHandle at then field_handle
    else struct_shape (all_there (map (layout_of recs below args) (instance_fields recs at)))

abbrev pub or_shape : Option Shape → Shape → Shape
or_shape None other = other
or_shape (Some s) other = s

abbrev pub row_shape : List AsmRec → (TypeExpr → Shape) → List TypeExpr → RowAt → Shape
row_shape recs below args at =
    if not (is_value_type recs at) then reference
    else if not (fits_params recs at args) then no_value
    else or_shape (if is_enum recs at then enum_shape recs args at else None) (value_shape recs below args at)

abbrev pub home_shape : List AsmRec → (TypeExpr → Shape) → List TypeExpr → Option RowAt → Shape
home_shape recs below args None = no_value
home_shape recs below args (Some at) = row_shape recs below args at

abbrev pub shape_in : List AsmRec → (TypeExpr → Shape) → TypeExpr-F TypeExpr → Shape
shape_in recs below (TypeExpr-F.Prim n) = prim_shape n
shape_in recs below (TypeExpr-F.Def t) = home_shape recs below [] (type_home recs t)
shape_in recs below (TypeExpr-F.Inst t args) = home_shape recs below args (type_home recs t)
shape_in recs below (TypeExpr-F.Array x) = reference
shape_in recs below (TypeExpr-F.ByRef x) = pointer
shape_in recs below _ = no_value

-- the greatest depth of structs in one another; a deeper value type has no value
abbrev pub most_nested : ℕ
most_nested = 1024

-- a shape at the greatest depth of structs: a struct, and so a handle, has no value there
abbrev pub without_struct : Shape → Shape
without_struct (structure cells) = no_value
without_struct type_handle = no_value
without_struct field_handle = no_value
without_struct other = other

unfoldable pub shape_within : List AsmRec → ℕ → TypeExpr → Shape
shape_within recs zero e = without_struct (shape_in recs (λ d. no_value) (out-TypeExpr (plain e)))
shape_within recs (suc n) e = shape_in recs (shape_within recs n) (out-TypeExpr (plain e))

unfoldable pub shape_query : List AsmRec → TypeExpr → Shape
shape_query recs e = shape_within recs most_nested e

-- ---- the cells of an instance of a class: those of its bases first

abbrev pub own_cells : List AsmRec → TypeExpr → List Layout
own_cells recs e =
    flat_map (λ at. flat_map (λ f. listed (layout_of recs (shape_query recs) (args_of e) f)) (instance_fields recs at)) (listed (home_of recs e))

abbrev pub is_exception : List AsmRec → TypeExpr → Bool
is_exception recs e = list_any (is_core_type recs core.Exception) (listed (home_of recs e))

abbrev pub core_expr : List AsmRec → CoreName → TypeExpr
core_expr recs name = expr.Def (type_id recs (length recs - 1) (core_type_row name))

-- the message and the inner exception that every exception has
abbrev pub exception_cells : List AsmRec → List Layout
exception_cells recs =
    record { cell = message; typ = expr.Prim element.STRING; zero = value.Null }
    ∷ record { cell = inner; typ = core_expr recs core.Exception; zero = value.Null } ∷ []

unfoldable pub cells_query : List AsmRec → TypeExpr → List Layout
cells_query recs e =
    let bases : List TypeExpr = with_bases recs e in
    (if list_any (is_exception recs) bases then exception_cells recs else []) ++ flat_map (own_cells recs) (reverse bases)
