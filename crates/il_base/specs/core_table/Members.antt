-- The members of each kind of core type, in the order of their rows.
use Rattle.std.specs.Prelude.{List, []}
use Rattle.il_base.specs.declared.core_table.shape.CoreField.{CoreField}
use Rattle.il_base.specs.declared.core_table.shape.CoreMembers.{CoreMembers}
use Rattle.il_base.specs.declared.core_table.shape.CoreMembers.TheVariants as kind
use Rattle.il_base.specs.declared.core_table.shape.CoreMethod.{CoreMethod}
use Rattle.il_base.specs.declared.core_table.methods.TheConstants.{OBJECT_METHODS, VALUE_TYPE_METHODS, ENUM_METHODS, PRIMITIVE_METHODS, INT32_METHODS, ARRAY_METHODS, EXCEPTION_METHODS, EXCEPTION_CONSTRUCTORS, RUNTIME_HELPERS_METHODS, IDISPOSABLE_METHODS, ATTRIBUTE_METHODS}
use Rattle.il_base.specs.declared.core_table.reflection_methods.TheConstants.{TYPE_METHODS, MEMBER_INFO_METHODS, METHOD_BASE_METHODS, METHOD_INFO_METHODS, FIELD_INFO_METHODS, PROPERTY_INFO_METHODS, ACTIVATOR_METHODS}
use Rattle.il_base.specs.declared.core_table.text_methods.TheConstants.{STRING_METHODS, CONSOLE_METHODS, STRING_FIELDS}

unfoldable pub methods_of : CoreMembers → List CoreMethod
methods_of kind.NoMethods = []
methods_of kind.Object = OBJECT_METHODS
methods_of kind.ValueType = VALUE_TYPE_METHODS
methods_of kind.Enum = ENUM_METHODS
methods_of kind.Primitive = PRIMITIVE_METHODS
methods_of kind.Int32 = INT32_METHODS
methods_of kind.String = STRING_METHODS
methods_of kind.Array = ARRAY_METHODS
methods_of kind.Console = CONSOLE_METHODS
methods_of kind.Exception = EXCEPTION_METHODS
methods_of kind.Constructors = EXCEPTION_CONSTRUCTORS
methods_of kind.Type = TYPE_METHODS
methods_of kind.MemberInfo = MEMBER_INFO_METHODS
methods_of kind.MethodBase = METHOD_BASE_METHODS
methods_of kind.MethodInfo = METHOD_INFO_METHODS
methods_of kind.FieldInfo = FIELD_INFO_METHODS
methods_of kind.PropertyInfo = PROPERTY_INFO_METHODS
methods_of kind.Activator = ACTIVATOR_METHODS
methods_of kind.RuntimeHelpers = RUNTIME_HELPERS_METHODS
methods_of kind.IDisposable = IDISPOSABLE_METHODS
methods_of kind.Attribute = ATTRIBUTE_METHODS

unfoldable pub fields_of : CoreMembers → List CoreField
fields_of kind.String = STRING_FIELDS
fields_of kind.NoMethods = []
fields_of kind.Object = []
fields_of kind.ValueType = []
fields_of kind.Enum = []
fields_of kind.Primitive = []
fields_of kind.Int32 = []
fields_of kind.Array = []
fields_of kind.Console = []
fields_of kind.Exception = []
fields_of kind.Constructors = []
fields_of kind.Type = []
fields_of kind.MemberInfo = []
fields_of kind.MethodBase = []
fields_of kind.MethodInfo = []
fields_of kind.FieldInfo = []
fields_of kind.PropertyInfo = []
fields_of kind.Activator = []
fields_of kind.RuntimeHelpers = []
fields_of kind.IDisposable = []
fields_of kind.Attribute = []
