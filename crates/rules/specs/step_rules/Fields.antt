-- Fields (III.4.10, III.4.11, III.4.14, III.4.15, III.4.28, III.4.30).
use Rattle.std.specs.Prelude.{ℕ, pos, List, [], ◌∷◌, ◌++◌, length, nat_le, ◌==◌, Bool, true, not, ◌&&◌, ◌||◌, Option, Some, None, slice_get, find, if◌then◌else◌}
use Rattle.std.specs.Option.{option_map, option_and_then}
use Rattle.byteorder.specs.Endian.{little_number}
use Rattle.il_base.specs.declared.opcode.TheConstants.{LDFLD, LDFLDA, STFLD, LDSFLD, LDSFLDA, STSFLD}
use Rattle.il_base.specs.declared.field_flags.TheConstants.{LITERAL, STATIC}
use Rattle.il_base.specs.Flags.{has_flag}
use Rattle.il_base.specs.declared.world_model.expr.TypeExpr.{TypeExpr}
use Rattle.il_base.specs.declared.world_model.known.Known.TheVariants.{Good, Bad}
use Rattle.il_base.specs.world_model.Exprs.{same_expr}
use Rattle.il_base.specs.declared.core_table.names.CoreName.TheVariants.{NullReferenceException}
use Rattle.il_base.specs.declared.cil_values.value.Value.{Value}
use Rattle.il_base.specs.declared.cil_values.value.Value.TheVariants as value
use Rattle.il_base.specs.declared.cil_values.object.Obj.{Obj}
use Rattle.il_base.specs.declared.cil_values.object.Obj.TheVariants as object
use Rattle.il_base.specs.declared.cil_values.path.Path.{Path}
use Rattle.il_base.specs.declared.cil_values.path.Root.TheVariants as root
use Rattle.il_base.specs.declared.cil_values.resolved.Instruction.{Instruction}
use Rattle.il_base.specs.declared.cil_values.definition.First.{First}
use Rattle.il_base.specs.declared.cil_values.layout.Cell.{Cell}
use Rattle.il_base.specs.declared.cil_values.layout.Layout.{Layout}
use Rattle.il_base.specs.declared.cil_values.layout.Shape.{Shape}
use Rattle.il_base.specs.declared.cil_values.definition.First.TheVariants.{Blank as blank, Bytes as bytes, EmptyText as empty_text}
use Rattle.il_base.specs.declared.cil_values.layout.Cell.TheVariants.{Field as of_field}
use Rattle.il_base.specs.declared.cil_values.layout.Shape.TheVariants.{Integer as integer, Structure as structure}
use Rattle.rules.specs.step_rules.Queries.{Queries}
use Rattle.il_base.specs.declared.cil_values.resolved.Use.TheVariants as used
use Rattle.il_base.specs.declared.cil_values.state.State.{State}
use Rattle.rules.specs.step_rules.Next.{Next}
use Rattle.rules.specs.step_rules.Words.{Form, Here, stuck, stopped, given, had, required, popped, args_of, good, goes, object_at}
use Rattle.rules.specs.step_rules.Closing.{Accessed, closed_field, closed_cell}
use Rattle.rules.specs.step_rules.Integers.{number, width_of}
use Rattle.rules.specs.step_rules.Stores.{Parts, parts_of, fits, zero_of}
use Rattle.rules.specs.step_rules.Places.{same_cell, cell_place, at_place, put_at, alive, global_of, with_global}
use Rattle.rules.specs.step_rules.Objects.{is_a, interned}
use Rattle.rules.specs.step_rules.Raising.{raise}
use Rattle.rules.specs.step_rules.Frames.{started}

abbrev pub is_static : Accessed → Bool
is_static a = has_flag a.field.flags STATIC

abbrev pub is_literal : Accessed → Bool
is_literal a = has_flag a.field.flags LITERAL

-- ---- static fields

unfoldable pub static_type : Queries → Accessed → Option TypeExpr
static_type q a = option_and_then (closed_cell q (args_of a.owner) []) (good a.field.typ)

abbrev pub with_value : Accessed → Value → State → State
with_value a v s = record s { statics = s.statics ++ record { field = a.id; owner = a.owner; value = v } ∷ [] }

abbrev pub begins_with : Accessed → State → (State → Next) → Value → Next
begins_with a s f v = f (with_value a v s)

-- the number of the first bytes, little-endian; too few have no meaning
abbrev pub number_in : ℕ → List ℕ → Option Value
number_in code bs = if nat_le (width_of code) (length bs) then Some (number code (pos (little_number (width_of code) bs))) else None

abbrev pub value_of_bytes : Queries → TypeExpr → List ℕ → Shape → Option Value
value_of_bytes q e bs (integer code) = number_in code bs
value_of_bytes q e bs _ = zero_of q e

-- a static field gets its initial value at its first access (II.16.3.2)
abbrev pub first_value : Queries → Accessed → State → (State → Next) → TypeExpr → First → Next
first_value q a s f e blank = had (zero_of q e) s (begins_with a s f)
first_value q a s f e (bytes (Good bs)) = had (value_of_bytes q e bs (q.shape e)) s (begins_with a s f)
first_value q a s f e (bytes (Bad why)) = stopped s
first_value q a s f e empty_text = interned [] s (λ o t. f (with_value a (value.Object o) t))

abbrev pub begun_static : Queries → Accessed → State → (State → Next) → TypeExpr → Option Value → Next
begun_static q a s f e (Some v) = f s
begun_static q a s f e None = first_value q a s f e a.field.first

-- goes on with the type of a static field that has a value
unfoldable pub with_static : Queries → Accessed → State → (TypeExpr → State → Next) → Next
with_static q a s f = had (static_type q a) s (λ e. begun_static q a s (f e) e (global_of s a.id a.owner))

abbrev pub static_path : Accessed → TypeExpr → Path
static_path a e = record { root = root.Static (record { 0 = a.id }) a.owner; steps = []; of = e }

-- `ldsfld`, `ldsflda` and `stsfld`, with this much of the stack left
abbrev pub load_static : Queries → Here → Instruction → Accessed → List Value → State → Next
load_static q here i a stack s = with_static q a s (λ e t. had (global_of t a.id a.owner) t (λ v. goes here i (v ∷ stack) t))

abbrev pub address_static : Queries → Here → Instruction → Accessed → List Value → State → Next
address_static q here i a stack s = with_static q a s (λ e t. goes here i (value.Pointer (static_path a e) ∷ stack) t)

abbrev pub store_static : Queries → Here → Instruction → Accessed → Value → List Value → State → Next
store_static q here i a v stack s =
    with_static q a s (λ e t. given (fits q e v) t (λ w. goes here i stack (with_global a.id a.owner w t)))

-- ---- instance fields

abbrev pub cell_for : Accessed → Cell
cell_for a = of_field a.id

abbrev pub layout_of : Cell → List Layout → Option Layout
layout_of c cells = find (λ l. same_cell c l.cell) cells

-- a cell of a struct: its number and its type
pub record StructCell : Type 0 where
  pub number : ℕ
  pub typ : TypeExpr

abbrev pub cell_with : List Layout → Cell → ℕ → Option StructCell
cell_with cells c k = option_map (λ l. record { number = k; typ = l.typ }) (layout_of c cells)

abbrev pub struct_cell_in : Cell → Shape → Option StructCell
struct_cell_in c (structure cells) = option_and_then (cell_with cells c) (cell_place c cells)
struct_cell_in c _ = None

unfoldable pub struct_cell : Queries → TypeExpr → Cell → Option StructCell
struct_cell q e c = struct_cell_in c (q.shape e)

abbrev pub into_struct : Path → StructCell → Path
into_struct p c = record p { steps = p.steps ++ c.number ∷ []; of = c.typ }

abbrev pub box_path : ℕ → StructCell → Path
box_path o c = record { root = root.Boxed o; steps = c.number ∷ []; of = c.typ }

abbrev pub instance_path : ℕ → Accessed → Layout → Path
instance_path o a l = record { root = root.Field o (record { 0 = a.id }); steps = []; of = l.typ }

-- the place of a field of an object: a cell of an instance, or of the struct in a box
abbrev pub object_field : Queries → Accessed → ℕ → Obj → Option Path
object_field q a o (object.Instance of cells) = option_map (instance_path o a) (layout_of (cell_for a) (q.cells of))
object_field q a o (object.Boxed of v) = option_map (box_path o) (struct_cell q of (cell_for a))
object_field q a o _ = None

abbrev pub field_of_object : Queries → Accessed → ℕ → State → (Path → Next) → Next
field_of_object q a o s f =
    given (object_at s o) s (λ x. required (is_a q a.owner (Some x)) s (had (object_field q a o x) s f))

abbrev pub field_of_pointer : Queries → Accessed → Path → State → (Path → Next) → Next
field_of_pointer q a p s f =
    alive p s (required (same_expr p.of a.owner) s (had (struct_cell q a.owner (cell_for a)) s (λ c. f (into_struct p c))))

-- the place of a field: of an object whose type is a subtype of the owner, or through a pointer whose type is the owner
unfoldable pub field_place : Queries → Accessed → Value → State → (Path → Next) → Next
field_place q a value.Null s f = raise q NullReferenceException s
field_place q a (value.Object o) s f = field_of_object q a o s f
field_place q a (value.Pointer p) s f = field_of_pointer q a p s f
field_place q a _ s f = stuck s

-- `ldfld` of a struct on the stack, which is of the owner's type
abbrev pub load_part : Queries → Here → Instruction → Accessed → List Value → State → Parts → Next
load_part q here i a stack s p =
    required (same_expr p.of a.owner) s (had (struct_cell q a.owner (cell_for a)) s (λ c.
    had (slice_get p.cells c.number) s (λ v. goes here i (v ∷ stack) s)))

abbrev pub load_from : Queries → Here → Instruction → Accessed → Value → List Value → State → Option Parts → Next
load_from q here i a r stack s (Some p) = load_part q here i a stack s p
load_from q here i a r stack s None = field_place q a r s (λ p. at_place q p s (λ v. goes here i (v ∷ stack) s))

abbrev pub load_field : Queries → Here → Instruction → Accessed → Value → List Value → State → Next
load_field q here i a r stack s = load_from q here i a r stack s (parts_of r)

abbrev pub address_field : Queries → Here → Instruction → Accessed → Value → List Value → State → Next
address_field q here i a r stack s = field_place q a r s (λ p. at_place q p s (λ v. goes here i (value.Pointer p ∷ stack) s))

-- `stfld`: checks the object, then stores the value
abbrev pub store_field : Queries → Here → Instruction → Accessed → Value → Value → List Value → State → Next
store_field q here i a r v stack s =
    field_place q a r s (λ p. at_place q p s (λ old. given (fits q p.of v) s (λ w. put_at q p w s (goes here i stack))))

-- ---- by opcode

-- an access to a field with an object on the stack; where the field is static, the object is dropped, of whatever kind it is
abbrev pub load_with : Queries → Here → Instruction → Accessed → Value → List Value → State → Next
load_with q here i a r stack s = if is_static a then load_static q here i a stack s else load_field q here i a r stack s

abbrev pub address_with : Queries → Here → Instruction → Accessed → Value → List Value → State → Next
address_with q here i a r stack s = if is_static a then address_static q here i a stack s else address_field q here i a r stack s

abbrev pub store_with : Queries → Here → Instruction → Accessed → Value → Value → List Value → State → Next
store_with q here i a r v stack s = if is_static a then store_static q here i a v stack s else store_field q here i a r v stack s

abbrev pub access : Queries → Here → Instruction → Accessed → State → Next
access q here i a s =
    if i.opcode == LDSFLD then load_static q here i a s.top.stack s
    else if i.opcode == LDSFLDA then address_static q here i a s.top.stack s
    else if i.opcode == STSFLD then popped s.top.stack s (λ v stack. store_static q here i a v stack s)
    else if i.opcode == LDFLD then popped s.top.stack s (λ r stack. load_with q here i a r stack s)
    else if i.opcode == LDFLDA then popped s.top.stack s (λ r stack. address_with q here i a r stack s)
    else if i.opcode == STFLD then popped s.top.stack s (λ v below. popped below s (λ r stack. store_with q here i a r v stack s))
    else stuck s

abbrev pub is_static_instruction : ℕ → Bool
is_static_instruction code = code == LDSFLD || code == LDSFLDA || code == STSFLD

-- an instruction may not access a literal (II.16.1.2), nor an instance field by `ldsfld`, `ldsflda` or `stsfld`
abbrev pub may_access : Instruction → Accessed → Bool
may_access i a = not (is_literal a) && (is_static a || not (is_static_instruction i.opcode))

-- an access to a static field begins its type (II.10.5.3)
abbrev pub begun_for : Queries → Accessed → State → (State → Next) → Next
begun_for q a s f = if is_static a then started q true a.owner s f else f s

abbrev pub accesses : Queries → Here → Instruction → State → Accessed → Next
accesses q here i s a = required (may_access i a) s (begun_for q a s (access q here i a))

unfoldable pub field_form : Form
field_form q here i s = elim i.operand [ used.Field f ↦ closed_field q here f s (accesses q here i s) | _ ↦ stuck s ]
