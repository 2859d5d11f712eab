-- The names of the core library's table are texts.
use Rattle.std.proofs.Common.{ℕ, ◌+◌, List, [], ◌∷◌, length, refl}
use Rattle.il_base.specs.declared.world_model.types.TypeDefRow.{TypeDefRow}
use Rattle.il_base.specs.declared.world_model.members.FieldRow.{FieldRow}
use Rattle.il_base.specs.declared.world_model.members.MethodDefRow.{MethodDefRow}
use Rattle.il_base.specs.declared.core_table.names.CoreName.{CoreName}
use Rattle.il_base.specs.declared.core_table.names.CoreName.TheVariants as name
use Rattle.il_base.specs.declared.core_table.shape.CoreField.{CoreField}
use Rattle.il_base.specs.declared.core_table.shape.CoreMethod.{CoreMethod}
use Rattle.il_base.specs.declared.core_table.shape.CoreType.{CoreType}
use Rattle.il_base.specs.core_table.Names.{text_of}
use Rattle.il_base.specs.core_table.Members.{fields_of, methods_of}
use Rattle.il_base.specs.core_table.Record.{field_row, method_row, field_rows, method_rows, all_fields, all_methods, type_row, type_rows}
use Rattle.file_laws.specs.written_tables.Written.{IsText}
use Rattle.merge_laws.proofs.lemmas.merged_loads.Lists.{Every, every_none, every_one, every_join, every_map}
use Rattle.merge_laws.proofs.lemmas.merged_loads.Texts.{is_text}

pub core_text : (n : CoreName) → IsText (text_of n)
unfolding text_of
core_text name.Module = is_text (text_of name.Module) refl refl
core_text name.Object = is_text (text_of name.Object) refl refl
core_text name.ValueType = is_text (text_of name.ValueType) refl refl
core_text name.Enum = is_text (text_of name.Enum) refl refl
core_text name.Boolean = is_text (text_of name.Boolean) refl refl
core_text name.Char = is_text (text_of name.Char) refl refl
core_text name.SByte = is_text (text_of name.SByte) refl refl
core_text name.Byte = is_text (text_of name.Byte) refl refl
core_text name.Int16 = is_text (text_of name.Int16) refl refl
core_text name.UInt16 = is_text (text_of name.UInt16) refl refl
core_text name.Int32 = is_text (text_of name.Int32) refl refl
core_text name.UInt32 = is_text (text_of name.UInt32) refl refl
core_text name.Int64 = is_text (text_of name.Int64) refl refl
core_text name.UInt64 = is_text (text_of name.UInt64) refl refl
core_text name.IntPtr = is_text (text_of name.IntPtr) refl refl
core_text name.UIntPtr = is_text (text_of name.UIntPtr) refl refl
core_text name.Void = is_text (text_of name.Void) refl refl
core_text name.RuntimeTypeHandle = is_text (text_of name.RuntimeTypeHandle) refl refl
core_text name.RuntimeFieldHandle = is_text (text_of name.RuntimeFieldHandle) refl refl
core_text name.RuntimeMethodHandle = is_text (text_of name.RuntimeMethodHandle) refl refl
core_text name.String = is_text (text_of name.String) refl refl
core_text name.Array = is_text (text_of name.Array) refl refl
core_text name.Console = is_text (text_of name.Console) refl refl
core_text name.Exception = is_text (text_of name.Exception) refl refl
core_text name.Type = is_text (text_of name.Type) refl refl
core_text name.MemberInfo = is_text (text_of name.MemberInfo) refl refl
core_text name.MethodBase = is_text (text_of name.MethodBase) refl refl
core_text name.MethodInfo = is_text (text_of name.MethodInfo) refl refl
core_text name.FieldInfo = is_text (text_of name.FieldInfo) refl refl
core_text name.PropertyInfo = is_text (text_of name.PropertyInfo) refl refl
core_text name.Activator = is_text (text_of name.Activator) refl refl
core_text name.RuntimeHelpers = is_text (text_of name.RuntimeHelpers) refl refl
core_text name.IDisposable = is_text (text_of name.IDisposable) refl refl
core_text name.Attribute = is_text (text_of name.Attribute) refl refl
core_text name.SystemException = is_text (text_of name.SystemException) refl refl
core_text name.ApplicationException = is_text (text_of name.ApplicationException) refl refl
core_text name.MemberAccessException = is_text (text_of name.MemberAccessException) refl refl
core_text name.MissingMemberException = is_text (text_of name.MissingMemberException) refl refl
core_text name.ArgumentException = is_text (text_of name.ArgumentException) refl refl
core_text name.ArgumentNullException = is_text (text_of name.ArgumentNullException) refl refl
core_text name.ArgumentOutOfRangeException = is_text (text_of name.ArgumentOutOfRangeException) refl refl
core_text name.InvalidOperationException = is_text (text_of name.InvalidOperationException) refl refl
core_text name.NotSupportedException = is_text (text_of name.NotSupportedException) refl refl
core_text name.NotImplementedException = is_text (text_of name.NotImplementedException) refl refl
core_text name.NullReferenceException = is_text (text_of name.NullReferenceException) refl refl
core_text name.InvalidCastException = is_text (text_of name.InvalidCastException) refl refl
core_text name.IndexOutOfRangeException = is_text (text_of name.IndexOutOfRangeException) refl refl
core_text name.ArrayTypeMismatchException = is_text (text_of name.ArrayTypeMismatchException) refl refl
core_text name.ArithmeticException = is_text (text_of name.ArithmeticException) refl refl
core_text name.DivideByZeroException = is_text (text_of name.DivideByZeroException) refl refl
core_text name.OverflowException = is_text (text_of name.OverflowException) refl refl
core_text name.FormatException = is_text (text_of name.FormatException) refl refl
core_text name.TypeInitializationException = is_text (text_of name.TypeInitializationException) refl refl
core_text name.TypeLoadException = is_text (text_of name.TypeLoadException) refl refl
core_text name.MissingMethodException = is_text (text_of name.MissingMethodException) refl refl
core_text name.AmbiguousMatchException = is_text (text_of name.AmbiguousMatchException) refl refl
core_text name.TargetInvocationException = is_text (text_of name.TargetInvocationException) refl refl
core_text name.TargetParameterCountException = is_text (text_of name.TargetParameterCountException) refl refl
core_text name.TargetException = is_text (text_of name.TargetException) refl refl
core_text name.Nameless = is_text (text_of name.Nameless) refl refl
core_text name.System = is_text (text_of name.System) refl refl
core_text name.SystemReflection = is_text (text_of name.SystemReflection) refl refl
core_text name.SystemRuntimeCompilerServices = is_text (text_of name.SystemRuntimeCompilerServices) refl refl
core_text name.Constructor = is_text (text_of name.Constructor) refl refl
core_text name.ToString = is_text (text_of name.ToString) refl refl
core_text name.Equals = is_text (text_of name.Equals) refl refl
core_text name.GetHashCode = is_text (text_of name.GetHashCode) refl refl
core_text name.Finalize = is_text (text_of name.Finalize) refl refl
core_text name.GetType = is_text (text_of name.GetType) refl refl
core_text name.ReferenceEquals = is_text (text_of name.ReferenceEquals) refl refl
core_text name.CompareTo = is_text (text_of name.CompareTo) refl refl
core_text name.Parse = is_text (text_of name.Parse) refl refl
core_text name.GetLength = is_text (text_of name.GetLength) refl refl
core_text name.GetChars = is_text (text_of name.GetChars) refl refl
core_text name.Concat = is_text (text_of name.Concat) refl refl
core_text name.OpEquality = is_text (text_of name.OpEquality) refl refl
core_text name.OpInequality = is_text (text_of name.OpInequality) refl refl
core_text name.Substring = is_text (text_of name.Substring) refl refl
core_text name.IndexOf = is_text (text_of name.IndexOf) refl refl
core_text name.IsNullOrEmpty = is_text (text_of name.IsNullOrEmpty) refl refl
core_text name.CompareOrdinal = is_text (text_of name.CompareOrdinal) refl refl
core_text name.WriteLine = is_text (text_of name.WriteLine) refl refl
core_text name.Write = is_text (text_of name.Write) refl refl
core_text name.ReadLine = is_text (text_of name.ReadLine) refl refl
core_text name.Read = is_text (text_of name.Read) refl refl
core_text name.GetMessage = is_text (text_of name.GetMessage) refl refl
core_text name.GetInnerException = is_text (text_of name.GetInnerException) refl refl
core_text name.GetTypeFromHandle = is_text (text_of name.GetTypeFromHandle) refl refl
core_text name.GetNamespace = is_text (text_of name.GetNamespace) refl refl
core_text name.GetFullName = is_text (text_of name.GetFullName) refl refl
core_text name.IsAssignableFrom = is_text (text_of name.IsAssignableFrom) refl refl
core_text name.IsInstanceOfType = is_text (text_of name.IsInstanceOfType) refl refl
core_text name.GetIsValueType = is_text (text_of name.GetIsValueType) refl refl
core_text name.GetIsInterface = is_text (text_of name.GetIsInterface) refl refl
core_text name.GetIsArray = is_text (text_of name.GetIsArray) refl refl
core_text name.GetMethod = is_text (text_of name.GetMethod) refl refl
core_text name.GetMethods = is_text (text_of name.GetMethods) refl refl
core_text name.GetField = is_text (text_of name.GetField) refl refl
core_text name.GetFields = is_text (text_of name.GetFields) refl refl
core_text name.GetProperty = is_text (text_of name.GetProperty) refl refl
core_text name.GetProperties = is_text (text_of name.GetProperties) refl refl
core_text name.GetName = is_text (text_of name.GetName) refl refl
core_text name.GetDeclaringType = is_text (text_of name.GetDeclaringType) refl refl
core_text name.Invoke = is_text (text_of name.Invoke) refl refl
core_text name.GetIsStatic = is_text (text_of name.GetIsStatic) refl refl
core_text name.GetReturnType = is_text (text_of name.GetReturnType) refl refl
core_text name.GetValue = is_text (text_of name.GetValue) refl refl
core_text name.SetValue = is_text (text_of name.SetValue) refl refl
core_text name.GetFieldType = is_text (text_of name.GetFieldType) refl refl
core_text name.GetPropertyType = is_text (text_of name.GetPropertyType) refl refl
core_text name.CreateInstance = is_text (text_of name.CreateInstance) refl refl
core_text name.InitializeArray = is_text (text_of name.InitializeArray) refl refl
core_text name.Dispose = is_text (text_of name.Dispose) refl refl
core_text name.Empty = is_text (text_of name.Empty) refl refl

-- ---- rows

abbrev pub TypeNamed : TypeDefRow → Type 0
TypeNamed row = IsText row.name × IsText row.namespace

pub core_types_named : (field method : ℕ) (ts : List CoreType) → Every TypeNamed (type_rows field method ts)
unfolding type_rows type_row
core_types_named field method [] = every_none TypeNamed
core_types_named field method (t ∷ ts) =
    every_join TypeNamed (type_row field method t ∷ []) (type_rows (field + length (fields_of t.members)) (method + length (methods_of t.members)) ts)
    (every_one TypeNamed (type_row field method t) (core_text t.name, core_text t.namespace))
    (core_types_named (field + length (fields_of t.members)) (method + length (methods_of t.members)) ts)

pub core_fields_named : (ts : List CoreType) → Every (λ (row : FieldRow). IsText row.name) (all_fields ts)
unfolding all_fields field_row
core_fields_named [] = every_none (λ (row : FieldRow). IsText row.name)
core_fields_named (t ∷ ts) =
    every_join (λ (row : FieldRow). IsText row.name) (field_rows (fields_of t.members)) (all_fields ts)
    (every_map (λ (row : FieldRow). IsText row.name) field_row (fields_of t.members) (λ (f : CoreField) c. core_text f.name)) (core_fields_named ts)

pub core_methods_named : (ts : List CoreType) → Every (λ (row : MethodDefRow). IsText row.name) (all_methods ts)
unfolding all_methods method_row
core_methods_named [] = every_none (λ (row : MethodDefRow). IsText row.name)
core_methods_named (t ∷ ts) =
    every_join (λ (row : MethodDefRow). IsText row.name) (method_rows (methods_of t.members)) (all_methods ts)
    (every_map (λ (row : MethodDefRow). IsText row.name) method_row (methods_of t.members) (λ (m : CoreMethod) c. core_text m.name)) (core_methods_named ts)
