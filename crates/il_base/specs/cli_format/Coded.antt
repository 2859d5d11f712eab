-- The tables that a coded index can name (II.24.2.6).
use Rattle.std.specs.Prelude.{ℕ, List, [], ◌∷◌}
use Rattle.il_base.specs.declared.table.TheConstants.{MODULE, TYPE_REF, TYPE_DEF, FIELD, METHOD_DEF, PARAM, INTERFACE_IMPL, MEMBER_REF, DECL_SECURITY, STAND_ALONE_SIG, EVENT, PROPERTY, MODULE_REF, TYPE_SPEC, ASSEMBLY, ASSEMBLY_REF, FILE, EXPORTED_TYPE, MANIFEST_RESOURCE, GENERIC_PARAM, METHOD_SPEC, GENERIC_PARAM_CONSTRAINT}
use Rattle.il_base.specs.declared.cli_format.column.CodedIndex.{CodedIndex}
use Rattle.il_base.specs.declared.cli_format.column.CodedIndex.TheVariants.{TypeDefOrRef, HasConstant, HasCustomAttribute, HasFieldMarshal, HasDeclSecurity, MemberRefParent, HasSemantics, MethodDefOrRef, MemberForwarded, Implementation, CustomAttributeType, ResolutionScope, TypeOrMethodDef}

-- the tables that the tags of a coded index name, in order of the tags, from the first tag that names a table on
abbrev pub targets_of : CodedIndex → List ℕ
targets_of TypeDefOrRef = TYPE_DEF ∷ TYPE_REF ∷ TYPE_SPEC ∷ []
targets_of HasConstant = FIELD ∷ PARAM ∷ PROPERTY ∷ []
targets_of HasCustomAttribute =
    METHOD_DEF ∷ FIELD ∷ TYPE_REF ∷ TYPE_DEF ∷ PARAM ∷ INTERFACE_IMPL ∷ MEMBER_REF ∷ MODULE ∷ DECL_SECURITY ∷ PROPERTY ∷ EVENT
    ∷ STAND_ALONE_SIG ∷ MODULE_REF ∷ TYPE_SPEC ∷ ASSEMBLY ∷ ASSEMBLY_REF ∷ FILE ∷ EXPORTED_TYPE ∷ MANIFEST_RESOURCE ∷ GENERIC_PARAM ∷ GENERIC_PARAM_CONSTRAINT ∷ METHOD_SPEC ∷ []
targets_of HasFieldMarshal = FIELD ∷ PARAM ∷ []
targets_of HasDeclSecurity = TYPE_DEF ∷ METHOD_DEF ∷ ASSEMBLY ∷ []
targets_of MemberRefParent = TYPE_DEF ∷ TYPE_REF ∷ MODULE_REF ∷ METHOD_DEF ∷ TYPE_SPEC ∷ []
targets_of HasSemantics = EVENT ∷ PROPERTY ∷ []
targets_of MethodDefOrRef = METHOD_DEF ∷ MEMBER_REF ∷ []
targets_of MemberForwarded = FIELD ∷ METHOD_DEF ∷ []
targets_of Implementation = FILE ∷ ASSEMBLY_REF ∷ EXPORTED_TYPE ∷ []
targets_of CustomAttributeType = METHOD_DEF ∷ MEMBER_REF ∷ []
targets_of ResolutionScope = MODULE ∷ MODULE_REF ∷ ASSEMBLY_REF ∷ TYPE_REF ∷ []
targets_of TypeOrMethodDef = TYPE_DEF ∷ METHOD_DEF ∷ []

-- how many low bits of a coded index are its tag
abbrev pub tag_bits_of : CodedIndex → ℕ
tag_bits_of TypeDefOrRef = 2
tag_bits_of HasConstant = 2
tag_bits_of HasCustomAttribute = 5
tag_bits_of HasFieldMarshal = 1
tag_bits_of HasDeclSecurity = 2
tag_bits_of MemberRefParent = 3
tag_bits_of HasSemantics = 1
tag_bits_of MethodDefOrRef = 1
tag_bits_of MemberForwarded = 1
tag_bits_of Implementation = 2
tag_bits_of CustomAttributeType = 3
tag_bits_of ResolutionScope = 2
tag_bits_of TypeOrMethodDef = 1

-- the first tag that names a table
abbrev pub first_tag_of : CodedIndex → ℕ
first_tag_of CustomAttributeType = 2
first_tag_of _ = 0
