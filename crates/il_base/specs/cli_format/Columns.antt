-- The columns of the tables of II.22, and the tables that a coded index can name (II.24.2.6).
use Rattle.std.specs.Prelude.{ℕ, List, [], ◌∷◌, get_or}
use Rattle.il_base.specs.declared.cli_format.column.Column.{Column}
use Rattle.il_base.specs.declared.cli_format.key.SortKey.{SortKey}
use Rattle.il_base.specs.declared.cli_format.key.SortKey.TheVariants.{Unsorted}
use Rattle.il_base.specs.declared.cli_format.key.TheConstants.{SORT_KEYS}
use Rattle.il_base.specs.declared.cli_format.schema.TheConstants.{MODULE, TYPE_REF, TYPE_DEF, FIELD, METHOD_DEF, PARAM, INTERFACE_IMPL, MEMBER_REF, CONSTANT, CUSTOM_ATTRIBUTE, FIELD_MARSHAL, DECL_SECURITY, CLASS_LAYOUT, FIELD_LAYOUT, STAND_ALONE_SIG, EVENT_MAP, EVENT, PROPERTY_MAP, PROPERTY, METHOD_SEMANTICS, METHOD_IMPL, MODULE_REF, TYPE_SPEC, IMPL_MAP, FIELD_RVA, ASSEMBLY, ASSEMBLY_PROCESSOR, ASSEMBLY_OS, ASSEMBLY_REF, ASSEMBLY_REF_PROCESSOR, ASSEMBLY_REF_OS, FILE, EXPORTED_TYPE, MANIFEST_RESOURCE, NESTED_CLASS, GENERIC_PARAM, METHOD_SPEC, GENERIC_PARAM_CONSTRAINT}

-- The columns of each table, in order of the tables' numbers. There are none where II.22 has no table of a number.
unfoldable pub schema : List (List Column)
schema =
    MODULE
    ∷ TYPE_REF
    ∷ TYPE_DEF
    ∷ []
    ∷ FIELD
    ∷ []
    ∷ METHOD_DEF
    ∷ []
    ∷ PARAM
    ∷ INTERFACE_IMPL
    ∷ MEMBER_REF
    ∷ CONSTANT
    ∷ CUSTOM_ATTRIBUTE
    ∷ FIELD_MARSHAL
    ∷ DECL_SECURITY
    ∷ CLASS_LAYOUT
    ∷ FIELD_LAYOUT
    ∷ STAND_ALONE_SIG
    ∷ EVENT_MAP
    ∷ []
    ∷ EVENT
    ∷ PROPERTY_MAP
    ∷ []
    ∷ PROPERTY
    ∷ METHOD_SEMANTICS
    ∷ METHOD_IMPL
    ∷ MODULE_REF
    ∷ TYPE_SPEC
    ∷ IMPL_MAP
    ∷ FIELD_RVA
    ∷ []
    ∷ []
    ∷ ASSEMBLY
    ∷ ASSEMBLY_PROCESSOR
    ∷ ASSEMBLY_OS
    ∷ ASSEMBLY_REF
    ∷ ASSEMBLY_REF_PROCESSOR
    ∷ ASSEMBLY_REF_OS
    ∷ FILE
    ∷ EXPORTED_TYPE
    ∷ MANIFEST_RESOURCE
    ∷ NESTED_CLASS
    ∷ GENERIC_PARAM
    ∷ METHOD_SPEC
    ∷ GENERIC_PARAM_CONSTRAINT
    ∷ []

unfoldable pub columns_of : ℕ → List Column
columns_of t = get_or schema t []

-- by which columns a table is sorted
unfoldable pub sort_key_of : ℕ → SortKey
sort_key_of t = get_or SORT_KEYS t Unsorted
