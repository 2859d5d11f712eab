-- The calls that the members of the core library's table are (`CoreCall`), by their types, names and parameters.
use Rattle.std.specs.Prelude.{ℕ, List, map, Option, Some, None, position, unwrap_or, ◌==◌, Bool, true, false, if◌then◌else◌}
use Rattle.std.specs.List.{flat_map}
use Rattle.std.specs.Option.{option_and_then, option_map}
use Rattle.il_base.specs.declared.element.TheConstants as element
use Rattle.il_base.specs.declared.world_model.record.AsmRec.{AsmRec}
use Rattle.il_base.specs.world_model.Core.{same_name}
use Rattle.il_base.specs.declared.core_table.names.CoreName.{CoreName}
use Rattle.il_base.specs.declared.core_table.names.CoreName.TheVariants as core
use Rattle.il_base.specs.declared.core_table.shape.CoreSig.{CoreSig}
use Rattle.il_base.specs.declared.core_table.shape.CoreSig.TheVariants.{Prim}
use Rattle.il_base.specs.declared.core_table.shape.CoreParams.{CoreParams}
use Rattle.il_base.specs.declared.core_table.shape.CoreParams.TheVariants.{Zero, One, Two}
use Rattle.il_base.specs.declared.core_table.shape.CoreMethod.{CoreMethod}
use Rattle.il_base.specs.declared.core_table.shape.CoreType.{CoreType}
use Rattle.il_base.specs.declared.core_table.kinds.OwnedMethod.{OwnedMethod}
use Rattle.il_base.specs.declared.core_table.types.TheConstants.{TYPES}
use Rattle.il_base.specs.core_table.Names.{text_of}
use Rattle.il_base.specs.core_table.Members.{methods_of}
use Rattle.il_base.specs.core_table.Kinds.{core_row, member_in}
use Rattle.il_base.specs.declared.cil_values.core_call.CoreCall.{CoreCall}
use Rattle.il_base.specs.declared.cil_values.core_call.Printed.{Printed}
use Rattle.il_base.specs.declared.cil_values.core_call.CoreCall.TheVariants as call
use Rattle.il_base.specs.declared.cil_values.core_call.Printed.TheVariants as printed
use Rattle.il_base.specs.declared.cil_values.core_call.MemberKind.TheVariants as kind
use Rattle.il_base.specs.declared.cil_values.core_call.CoreCall.{CoreCall}

-- ---- by parameters

abbrev pub is_string : CoreSig → Bool
is_string (Prim code) = code == element.STRING
is_string _ = false

-- `Equals(object)`, and of Int32 and String one of their own type
abbrev pub equals_by : CoreSig → CoreCall → CoreCall → CoreCall
equals_by (Prim code) any own = if code == element.OBJECT then any else own
equals_by _ any own = any

abbrev pub printed_by : CoreSig → Option Printed
printed_by (Prim code) =
    if code == element.STRING then Some printed.OfString
    else if code == element.I4 then Some printed.OfNumber
    else if code == element.I8 then Some printed.OfNumber
    else if code == element.BOOLEAN then Some printed.OfBool
    else if code == element.CHAR then Some printed.OfChar
    else if code == element.OBJECT then Some printed.OfObject
    else None
printed_by _ = None

abbrev pub prints_by : Bool → CoreParams → Option CoreCall
prints_by ends Zero = if ends then Some call.PrintsLineEnd else None
prints_by ends (One s) = option_map (call.Prints ends) (printed_by s)
prints_by ends _ = None

-- ---- by type and name

abbrev pub object_call : CoreName → CoreParams → Option CoreCall
object_call core.Constructor ps = Some call.Idle
object_call core.ToString ps = Some call.TypeName
object_call core.Equals (One s) = Some call.IsObject
object_call core.Equals ps = Some call.AreEqual
object_call core.GetHashCode ps = Some call.Halts
object_call core.Finalize ps = Some call.Idle
object_call core.GetType ps = Some call.TypeOf
object_call core.ReferenceEquals ps = Some call.SameReference
object_call _ ps = None

-- the members of Boolean, Char and the integers, by element type
abbrev pub primitive_call : ℕ → CoreName → CoreParams → Option CoreCall
primitive_call code core.ToString ps = Some (call.NumberText code)
primitive_call code core.Equals (One s) = Some (equals_by s (call.NumberIs code) call.IntEquals)
primitive_call code core.GetHashCode ps = Some call.Halts
primitive_call code core.CompareTo ps = Some call.IntCompare
primitive_call code core.Parse ps = Some call.IntParse
primitive_call code _ ps = None

abbrev pub string_call : CoreName → CoreParams → Option CoreCall
string_call core.GetLength ps = Some call.StringLength
string_call core.GetChars ps = Some call.StringUnit
string_call core.Concat ps = Some call.StringConcat
string_call core.OpEquality ps = Some call.StringSame
string_call core.OpInequality ps = Some call.StringOther
string_call core.Equals (One s) = Some (equals_by s call.StringIs call.StringSame)
string_call core.ToString ps = Some call.StringItself
string_call core.GetHashCode ps = Some call.Halts
string_call core.Substring (One s) = Some call.StringFrom
string_call core.Substring ps = Some call.StringPart
string_call core.IndexOf ps = Some call.StringIndex
string_call core.IsNullOrEmpty ps = Some call.StringIsEmpty
string_call core.CompareOrdinal ps = Some call.StringCompare
string_call _ ps = None

abbrev pub console_call : CoreName → CoreParams → Option CoreCall
console_call core.WriteLine ps = prints_by true ps
console_call core.Write ps = prints_by false ps
console_call core.ReadLine ps = Some call.ReadLine
console_call core.Read ps = Some call.ReadUnit
console_call _ ps = None

-- an exception's constructor with one text: the message, or for two types the name of a parameter
abbrev pub text_call : CoreName → CoreCall
text_call core.ArgumentNullException = call.ExceptionParameter core.ArgumentNullException
text_call core.ArgumentOutOfRangeException = call.ExceptionParameter core.ArgumentOutOfRangeException
text_call _ = call.ExceptionText

abbrev pub exception_call : CoreName → CoreName → CoreParams → Option CoreCall
exception_call owner core.Constructor Zero = Some call.ExceptionPlain
exception_call owner core.Constructor (One s) = Some (text_call owner)
exception_call owner core.Constructor (Two s t) = Some call.ExceptionInner
exception_call owner core.GetMessage ps = Some call.GetMessage
exception_call owner core.GetInnerException ps = Some call.GetInner
exception_call owner core.ToString ps = Some call.Halts
exception_call owner _ ps = None

abbrev pub type_call : CoreName → CoreParams → Option CoreCall
type_call core.GetTypeFromHandle ps = Some call.TypeFromHandle
type_call core.GetType (One s) = Some (call.TypeFind false)
type_call core.GetType ps = Some (call.TypeFind true)
type_call core.GetNamespace ps = Some call.TypeNamespace
type_call core.GetFullName ps = Some call.TypeFullName
type_call core.ToString ps = Some call.TypeText
type_call core.OpEquality ps = Some call.TypeSame
type_call core.OpInequality ps = Some call.TypeOther
type_call core.Equals ps = Some call.TypeIs
type_call core.IsAssignableFrom ps = Some call.TypeFits
type_call core.IsInstanceOfType ps = Some call.TypeHas
type_call core.GetIsValueType ps = Some call.TypeIsValue
type_call core.GetIsInterface ps = Some call.TypeIsInterface
type_call core.GetIsArray ps = Some call.TypeIsArray
type_call core.GetMethod ps = Some (call.MemberFind kind.Method)
type_call core.GetMethods ps = Some (call.MemberList kind.Method)
type_call core.GetField ps = Some (call.MemberFind kind.Field)
type_call core.GetFields ps = Some (call.MemberList kind.Field)
type_call core.GetProperty ps = Some (call.MemberFind kind.Property)
type_call core.GetProperties ps = Some (call.MemberList kind.Property)
type_call _ ps = Some call.Halts

abbrev pub member_info_call : CoreName → Option CoreCall
member_info_call core.GetName = Some call.MemberName
member_info_call core.GetDeclaringType = Some call.MemberOwner
member_info_call _ = None

-- of MethodBase, MethodInfo, FieldInfo and PropertyInfo, with what GetValue and SetValue are there
abbrev pub info_call : CoreCall → CoreCall → CoreName → Option CoreCall
info_call gets sets core.Invoke = Some call.Invoke
info_call gets sets core.GetValue = Some gets
info_call gets sets core.SetValue = Some sets
info_call gets sets core.GetIsStatic = Some call.MethodIsStatic
info_call gets sets core.GetReturnType = Some (call.MemberType kind.Method)
info_call gets sets core.GetFieldType = Some (call.MemberType kind.Field)
info_call gets sets core.GetPropertyType = Some (call.MemberType kind.Property)
info_call gets sets core.OpEquality = Some call.MemberSame
info_call gets sets core.OpInequality = Some call.MemberOther
info_call gets sets _ = Some call.Halts

-- CreateInstance(Type), CreateInstance<T>()
abbrev pub activator_call : CoreParams → Option CoreCall
activator_call (One s) = Some call.Create
activator_call ps = Some call.CreateOf

abbrev pub call_by : CoreName → CoreName → CoreParams → Option CoreCall
call_by core.Object name ps = object_call name ps
call_by core.ValueType name ps = Some call.Halts
call_by core.Enum name ps = Some call.Halts
call_by core.Boolean name ps = primitive_call element.BOOLEAN name ps
call_by core.Char name ps = primitive_call element.CHAR name ps
call_by core.SByte name ps = primitive_call element.I1 name ps
call_by core.Byte name ps = primitive_call element.U1 name ps
call_by core.Int16 name ps = primitive_call element.I2 name ps
call_by core.UInt16 name ps = primitive_call element.U2 name ps
call_by core.Int32 name ps = primitive_call element.I4 name ps
call_by core.UInt32 name ps = primitive_call element.U4 name ps
call_by core.Int64 name ps = primitive_call element.I8 name ps
call_by core.UInt64 name ps = primitive_call element.U8 name ps
call_by core.String name ps = string_call name ps
call_by core.Array name ps = Some call.ArrayLength
call_by core.Console name ps = console_call name ps
call_by core.Type name ps = type_call name ps
call_by core.MemberInfo name ps = member_info_call name
call_by core.MethodBase name ps = info_call call.Halts call.Halts name
call_by core.MethodInfo name ps = info_call call.Halts call.Halts name
call_by core.FieldInfo name ps = info_call call.FieldGet call.FieldSet name
call_by core.PropertyInfo name ps = info_call call.PropertyGet call.PropertySet name
call_by core.Activator name ps = activator_call ps
call_by core.RuntimeHelpers name ps = Some call.FillArray
call_by core.Attribute name ps = Some call.Idle
call_by core.IDisposable name ps = None
call_by owner name ps = exception_call owner name ps

abbrev pub call_of : OwnedMethod → Option CoreCall
call_of m = call_by m.owner m.method.name m.method.params

-- the member of the core library that a method of a world is; None for a method of an input, and for an abstract one
unfoldable pub core_call : List AsmRec → ℕ → Option CoreCall
core_call recs m = option_and_then call_of (option_and_then (member_in TYPES) (core_row recs m))

-- ---- places of types and members in the table

abbrev pub is_type_named : CoreName → CoreType → Bool
is_type_named name t = same_name (text_of t.name) (text_of name)

-- the row of a type, from 0
unfoldable pub core_type_row : CoreName → ℕ
core_type_row name = unwrap_or (position (is_type_named name) TYPES) 0

abbrev pub names_of : CoreType → List CoreName
names_of t = map (λ (m : CoreMethod). m.name) (methods_of t.members)

abbrev pub is_name : CoreName → CoreName → Bool
is_name wanted name = same_name (text_of name) (text_of wanted)

-- the first method of Object with a name, among all methods of the table, whose first type, `<Module>`, has none
unfoldable pub object_method : CoreName → ℕ
object_method name = unwrap_or (position (is_name name) (flat_map names_of TYPES)) 0
