-- Vectors (I.8.9.1, III.4.7 to III.4.9, III.4.12, III.4.20, III.4.26, III.4.27).
use Rattle.std.specs.Prelude.{ℕ, ℤ, pos, negsuc, List, [], ◌∷◌, length, nat_le, replicate, ◌==◌, Bool, true, false, not, ◌||◌, Option, Some, None, slice_get, slice_set, if◌then◌else◌}
use Rattle.std.specs.Option.{option_and_then}
use Rattle.il_base.specs.declared.opcode.TheConstants as opcode
use Rattle.il_base.specs.declared.element.TheConstants as element
use Rattle.il_base.specs.declared.world_model.expr.TypeExpr.{TypeExpr}
use Rattle.il_base.specs.world_model.Exprs.{same_expr}
use Rattle.il_base.specs.declared.core_table.names.CoreName.TheVariants.{ArrayTypeMismatchException, IndexOutOfRangeException, NullReferenceException, OverflowException}
use Rattle.il_base.specs.declared.cil_values.value.Value.{Value}
use Rattle.il_base.specs.declared.cil_values.value.Value.TheVariants as value
use Rattle.il_base.specs.declared.cil_values.object.Obj.{Obj}
use Rattle.il_base.specs.declared.cil_values.object.Obj.TheVariants as object
use Rattle.il_base.specs.declared.cil_values.path.Path.{Path}
use Rattle.il_base.specs.declared.cil_values.path.Root.TheVariants as root
use Rattle.il_base.specs.declared.cil_values.resolved.Instruction.{Instruction}
use Rattle.il_base.specs.declared.cil_values.resolved.Use.TheVariants.{Typ as typ}
use Rattle.rules.specs.step_rules.Queries.{Queries}
use Rattle.il_base.specs.declared.cil_values.state.State.{State}
use Rattle.il_base.specs.declared.cil_values.frame.Prefix.{Prefix}
use Rattle.il_base.specs.declared.cil_values.frame.Prefix.TheVariants.{Readonly as readonly}
use Rattle.rules.specs.step_rules.Next.{Next}
use Rattle.rules.specs.step_rules.Words.{Form, Here, stuck, given, had, required, within, popped, goes, made, object_at}
use Rattle.rules.specs.step_rules.Closing.{closed_element, plain}
use Rattle.rules.specs.step_rules.Stores.{Access, by_code, by_reference, element_access, allows, loaded, stored, zero_of}
use Rattle.rules.specs.step_rules.Objects.{is_a}
use Rattle.rules.specs.step_rules.Places.{with_object}
use Rattle.rules.specs.step_rules.Raising.{raise}

-- ---- `newarr`

-- the most elements of an array
abbrev pub array_limit : ℕ
array_limit = 1048576

-- a length or an index: an int32 or a native integer
unfoldable pub count_of : Value → Option ℤ
count_of (value.I4 n) = Some n
count_of (value.Native n) = Some n
count_of _ = None

abbrev pub new_array : Queries → Here → Instruction → State → TypeExpr → Value → List Value → ℤ → Next
new_array q here i s e zero stack (pos n) =
    within (nat_le n array_limit) s (made (object.Array e (replicate n zero)) s (λ a t. goes here i (value.Object a ∷ stack) t))
new_array q here i s e zero stack (negsuc n) = raise q OverflowException s

-- a type without a zero value stops the step before anything is popped
abbrev pub new_array_of : Queries → Here → Instruction → State → TypeExpr → Next
new_array_of q here i s e =
    had (zero_of q e) s (λ zero. popped s.top.stack s (λ v stack. given (count_of v) s (new_array q here i s e zero stack)))

unfoldable pub new_array_form : Form
new_array_form q here i s = elim i.operand [ typ e ↦ closed_element q here e s (new_array_of q here i s) | _ ↦ stuck s ]

-- ---- an array on the stack

-- an array: its place in the heap, the type of its elements, and these
pub record Vector : Type 0 where
  pub place : ℕ
  pub of : TypeExpr
  pub cells : List Value

abbrev pub vector_in : ℕ → Obj → Option Vector
vector_in a (object.Array of cells) = Some (record { place = a; of = of; cells = cells })
vector_in a _ = None

unfoldable pub vector_of : Queries → Value → State → (Vector → Next) → Next
vector_of q (value.Object a) s f = given (option_and_then (vector_in a) (object_at s a)) s f
vector_of q value.Null s f = raise q NullReferenceException s
vector_of q _ s f = stuck s

-- the type of an element without the modifiers around it
abbrev pub element_type : Vector → TypeExpr
element_type v = plain v.of

abbrev pub place_in : List Value → ℤ → Option ℕ
place_in cells (pos n) = elim (slice_get cells n) [ None ↦ None | Some v ↦ Some n ]
place_in cells (negsuc n) = None

abbrev pub in_range : Queries → State → (ℕ → Next) → Option ℕ → Next
in_range q s f None = raise q IndexOutOfRangeException s
in_range q s f (Some n) = f n

-- an index within an array
unfoldable pub index_in : Queries → Vector → Value → State → (ℕ → Next) → Next
index_in q v index s f = given (count_of index) s (λ n. in_range q s f (place_in v.cells n))

-- `ldlen`: a native unsigned integer
abbrev pub load_length : Queries → Here → Instruction → State → Next
load_length q here i s =
    popped s.top.stack s (λ r stack. vector_of q r s (λ v. goes here i (value.Native (pos (length v.cells)) ∷ stack) s))

-- ---- elements

abbrev pub load_element : Queries → Here → Instruction → State → Access → Next
load_element q here i s a =
    popped s.top.stack s (λ index below. popped below s (λ r stack. vector_of q r s (λ v.
    required (allows q a (element_type v)) s (index_in q v index s (λ n.
    given (option_and_then (loaded a) (slice_get v.cells n)) s (λ w. goes here i (w ∷ stack) s))))))

abbrev pub put_element : Here → Instruction → State → List Value → Vector → ℕ → Value → Next
put_element here i s stack v n w =
    given (with_object s v.place (Some (object.Array v.of (slice_set v.cells n w)))) s (λ t. goes here i stack t)

-- whether a value is an object that isn't of the element's type
abbrev pub mismatches : Queries → State → Vector → Value → Bool
mismatches q s v (value.Object a) = not (is_a q (element_type v) (object_at s a))
mismatches q s v _ = false

-- a store into an element, of which the type of the stored object is checked last
abbrev pub store_checked : Queries → Here → Instruction → State → List Value → Vector → ℕ → Value → Next
store_checked q here i s stack v n w =
    if mismatches q s v w then raise q ArrayTypeMismatchException s else put_element here i s stack v n w

abbrev pub store_element : Queries → Here → Instruction → State → Access → Next
store_element q here i s a =
    popped s.top.stack s (λ x rest. popped rest s (λ index below. popped below s (λ r stack. vector_of q r s (λ v.
    required (allows q a (element_type v)) s (index_in q v index s (λ n.
    given (stored q a (element_type v) x) s (store_checked q here i s stack v n)))))))

-- `ldelema`: null, the index, then exactly the element's type, but after `readonly.`
abbrev pub element_path : Vector → ℕ → Path
element_path v n = record { root = root.Element v.place n; steps = []; of = element_type v }

abbrev pub is_readonly : Prefix → Bool
is_readonly readonly = true
is_readonly _ = false

abbrev pub address_checked : Queries → Here → Instruction → State → TypeExpr → List Value → Vector → ℕ → Next
address_checked q here i s e stack v n =
    if same_expr (element_type v) e || is_readonly s.top.prefix
    then goes here i (value.Pointer (element_path v n) ∷ stack) s
    else raise q ArrayTypeMismatchException s

abbrev pub address_element : Queries → Here → Instruction → State → TypeExpr → Next
address_element q here i s e =
    popped s.top.stack s (λ index below. popped below s (λ r stack. vector_of q r s (λ v.
    index_in q v index s (address_checked q here i s e stack v))))

-- ---- by opcode

unfoldable pub load_access : ℕ → Option Access
load_access code =
    if code == opcode.LDELEM_I1 then Some (by_code element.I1)
    else if code == opcode.LDELEM_U1 then Some (by_code element.U1)
    else if code == opcode.LDELEM_I2 then Some (by_code element.I2)
    else if code == opcode.LDELEM_U2 then Some (by_code element.U2)
    else if code == opcode.LDELEM_I4 then Some (by_code element.I4)
    else if code == opcode.LDELEM_U4 then Some (by_code element.U4)
    else if code == opcode.LDELEM_I8 then Some (by_code element.I8)
    else if code == opcode.LDELEM_I then Some (by_code element.I)
    else if code == opcode.LDELEM_REF then Some by_reference
    else None

unfoldable pub store_access : ℕ → Option Access
store_access code =
    if code == opcode.STELEM_I1 then Some (by_code element.I1)
    else if code == opcode.STELEM_I2 then Some (by_code element.I2)
    else if code == opcode.STELEM_I4 then Some (by_code element.I4)
    else if code == opcode.STELEM_I8 then Some (by_code element.I8)
    else if code == opcode.STELEM_I then Some (by_code element.I)
    else if code == opcode.STELEM_REF then Some by_reference
    else None

abbrev pub store_or_length : Queries → Here → Instruction → State → Option Access → Next
store_or_length q here i s (Some a) = store_element q here i s a
store_or_length q here i s None = if i.opcode == opcode.LDLEN then load_length q here i s else stuck s

abbrev pub plain_element : Queries → Here → Instruction → State → Option Access → Next
plain_element q here i s (Some a) = load_element q here i s a
plain_element q here i s None = store_or_length q here i s (store_access i.opcode)

-- `ldelem`, `stelem`, `ldelema`
abbrev pub typed_element : Queries → Here → Instruction → State → TypeExpr → Next
typed_element q here i s e =
    if i.opcode == opcode.LDELEM then load_element q here i s (element_access q e)
    else if i.opcode == opcode.STELEM then store_element q here i s (element_access q e)
    else if i.opcode == opcode.LDELEMA then address_element q here i s e
    else stuck s

unfoldable pub element_form : Form
element_form q here i s =
    elim i.operand [ typ e ↦ closed_element q here e s (typed_element q here i s) | _ ↦ plain_element q here i s (load_access i.opcode) ]
