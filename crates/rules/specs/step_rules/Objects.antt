-- Objects: their types, the objects of texts, exceptions and their messages.
use Rattle.std.specs.Prelude.{ℕ, List, [], ◌∷◌, ◌++◌, length, nat_eq, nat_le, codes, Bool, false, Option, Some, None, find, unwrap_or}
use Rattle.std.specs.Option.{option_and_then}
use Rattle.std.specs.Cmp.Lexicographic.{pointwise}
use Rattle.std.specs.Str.{encode_utf8_all, chars}
use Rattle.std.specs.Char.Escape.{encode_utf16}
use Rattle.std.specs.Char.Utf16.{utf16_lossy_chars}
use Rattle.std.specs.List.{flat_map}
use Rattle.il_base.specs.declared.element.TheConstants.{STRING}
use Rattle.il_base.specs.declared.ids.Item.{Item}
use Rattle.il_base.specs.declared.ids.Item.TheVariants as item
use Rattle.il_base.specs.declared.world_model.expr.TypeExpr.{TypeExpr}
use Rattle.il_base.specs.declared.world_model.expr.TypeExpr as expr
use Rattle.il_base.specs.declared.core_table.names.CoreName.{CoreName}
use Rattle.il_base.specs.declared.core_table.names.CoreName.TheVariants as name
use Rattle.il_base.specs.declared.cil_values.value.Value.{Value}
use Rattle.il_base.specs.declared.cil_values.value.Value.TheVariants as value
use Rattle.il_base.specs.declared.cil_values.object.Obj.{Obj}
use Rattle.il_base.specs.declared.cil_values.object.Obj.TheVariants as object
use Rattle.il_base.specs.declared.cil_values.end.End.TheVariants.{Threw}
use Rattle.il_base.specs.declared.cil_values.layout.Cell.TheVariants.{Message as message, Inner as inner}
use Rattle.rules.specs.step_rules.Queries.{Queries}
use Rattle.il_base.specs.declared.cil_values.state.State.{State}
use Rattle.rules.specs.step_rules.Next.{Next, over}
use Rattle.rules.specs.step_rules.Words.{within, made, object_at}
use Rattle.rules.specs.step_rules.Stores.{zeros_of}
use Rattle.rules.specs.step_rules.Places.{cell_in, with_cell}

-- ---- types of objects

abbrev pub core_type : Queries → CoreName → TypeExpr
core_type q n = expr.Def (record { 0 = q.known n })

abbrev pub member_name : Item → CoreName
member_name (item.Method m) = name.MethodInfo
member_name (item.Field f) = name.FieldInfo
member_name (item.Prop p) = name.PropertyInfo
member_name _ = name.MemberInfo

unfoldable pub type_of : Queries → Obj → TypeExpr
type_of q (object.Instance of cells) = of
type_of q (object.Boxed of v) = of
type_of q (object.Array of cells) = expr.Array of
type_of q (object.Str units) = expr.Prim STRING
type_of q (object.TypeOf e) = core_type q name.Type
type_of q (object.Member i e) = core_type q (member_name i)

-- whether the object with a number is of a type
abbrev pub is_a : Queries → TypeExpr → Option Obj → Bool
is_a q e None = false
is_a q e (Some o) = q.below (type_of q o) e

-- ---- texts

abbrev pub units_in : Obj → Option (List ℕ)
units_in (object.Str units) = Some units
units_in _ = None

-- the units of the string that a value names
abbrev pub units_of : State → Value → Option (List ℕ)
units_of s (value.Object a) = option_and_then units_in (object_at s a)
units_of s _ = None

-- the units of a text in UTF-8
unfoldable pub units_of_bytes : List ℕ → List ℕ
units_of_bytes bytes = flat_map encode_utf16 (chars bytes)

-- the bytes of a text when it is printed: UTF-8, with U+FFFD for a surrogate that is in no pair
unfoldable pub bytes_of_units : List ℕ → List ℕ
bytes_of_units units = encode_utf8_all (utf16_lossy_chars units)

-- the most units of a text
abbrev pub text_limit : ℕ
text_limit = 16777216

-- a new string; a longer one ends the run
unfoldable pub made_text : List ℕ → State → (ℕ → State → Next) → Next
made_text units s f = within (nat_le (length units) text_limit) s (made (object.Str units) s f)

abbrev pub holds_text : List ℕ → Option Obj → Bool
holds_text units None = false
holds_text units (Some (object.Str others)) = pointwise nat_eq others units
holds_text units _ = false

-- the object that `ldstr` gave for a text
unfoldable pub text_object : State → List ℕ → Option ℕ
text_object s units = find (λ a. holds_text units (object_at s a)) s.texts

abbrev pub with_text : List ℕ → State → (ℕ → State → Next) → Option ℕ → Next
with_text units s f (Some a) = f a s
with_text units s f None = made_text units s (λ a s. f a (record s { texts = s.texts ++ a ∷ [] }))

-- the one object of a text (III.4.16), made now where it wasn't there
unfoldable pub interned : List ℕ → State → (ℕ → State → Next) → Next
interned units s f = with_text units s f (text_object s units)

-- ---- new objects

-- an instance of a class, each cell as it is at first
abbrev pub new_instance : Queries → TypeExpr → Obj
new_instance q e = object.Instance e (zeros_of (q.cells e))

-- ---- exceptions

-- the message of an exception that was given none
unfoldable pub own_message : CoreName → List ℕ
own_message name.ArgumentException = codes "Value does not fall within the expected range."
own_message name.ArgumentNullException = codes "Value cannot be null."
own_message name.ArgumentOutOfRangeException = codes "Specified argument was out of the range of valid values."
own_message name.InvalidOperationException = codes "Operation is not valid due to the current state of the object."
own_message name.NotSupportedException = codes "Specified method is not supported."
own_message name.NotImplementedException = codes "The method or operation is not implemented."
own_message name.NullReferenceException = codes "Object reference not set to an instance of an object."
own_message name.InvalidCastException = codes "Specified cast is not valid."
own_message name.IndexOutOfRangeException = codes "Index was outside the bounds of the array."
own_message name.ArrayTypeMismatchException = codes "Attempted to access an element as a type incompatible with the array."
own_message name.ArithmeticException = codes "Overflow or underflow in the arithmetic operation."
own_message name.DivideByZeroException = codes "Attempted to divide by zero."
own_message name.OverflowException = codes "Arithmetic operation resulted in an overflow."
own_message name.FormatException = codes "The input string was not in a correct format."
own_message name.TypeInitializationException = codes "The type initializer threw an exception."
own_message name.TypeLoadException = codes "Could not load the type."
own_message name.MissingMethodException = codes "No parameterless constructor defined."
own_message name.AmbiguousMatchException = codes "Ambiguous match found."
own_message name.TargetInvocationException = codes "The target threw an exception."
own_message name.TargetParameterCountException = codes "Parameter count mismatch."
own_message name.TargetException = codes "Non-static method requires a target."
own_message _ = codes "Exception was thrown."

-- the message of an exception that was given a parameter's name
unfoldable pub parameter_message : CoreName → List ℕ → List ℕ
parameter_message n units = own_message n ++ codes " (Parameter '" ++ units ++ codes "')"

abbrev pub kin_or_exception : Option CoreName → CoreName
kin_or_exception n = unwrap_or n name.Exception

-- the text of an exception without a stored message: that of the nearest core type among its bases
unfoldable pub default_message : Queries → TypeExpr → List ℕ
default_message q e = own_message (kin_or_exception (q.kin e))

abbrev pub message_cell : Queries → State → Obj → Option (List ℕ)
message_cell q s o = option_and_then (units_of s) (cell_in q message o)

unfoldable pub message_of : Queries → State → Obj → List ℕ
message_of q s o = unwrap_or (message_cell q s o) (default_message q (type_of q o))

-- a new exception of the core library, without message and inner exception
unfoldable pub new_exception : Queries → CoreName → Obj
new_exception q n = new_instance q (core_type q n)

-- a new exception of the core library with an inner exception
unfoldable pub wrapping : Queries → CoreName → ℕ → Obj
wrapping q n a = let e = core_type q n in let cells = zeros_of (q.cells e) in
    object.Instance e (unwrap_or (with_cell q e cells inner (value.Object a)) cells)

-- an exception that nobody catches ends the run with its type's text and its message
abbrev pub threw : Queries → State → Option Obj → Next
threw q s None = over (Threw [] [])
threw q s (Some o) = over (Threw (q.text (type_of q o)) (bytes_of_units (message_of q s o)))
