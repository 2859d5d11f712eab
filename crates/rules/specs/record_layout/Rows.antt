-- The rows of each table of II.22, as values in the order of its columns.
use Rattle.std.specs.Prelude.{ℕ, List, [], ◌∷◌}
use Rattle.il_base.specs.declared.sig.Sig.{Sig}
use Rattle.il_base.specs.declared.sig.MethodSig.{MethodSig}
use Rattle.il_base.specs.declared.world_model.known.Known.{Known}
use Rattle.il_base.specs.declared.world_model.known.Known.TheVariants.{Good, Bad}
use Rattle.il_base.specs.declared.world_model.types.ModuleRow.{ModuleRow}
use Rattle.il_base.specs.declared.world_model.types.TypeRefRow.{TypeRefRow}
use Rattle.il_base.specs.declared.world_model.types.TypeDefRow.{TypeDefRow}
use Rattle.il_base.specs.declared.world_model.types.InterfaceImplRow.{InterfaceImplRow}
use Rattle.il_base.specs.declared.world_model.types.NestedClassRow.{NestedClassRow}
use Rattle.il_base.specs.declared.world_model.types.ClassLayoutRow.{ClassLayoutRow}
use Rattle.il_base.specs.declared.world_model.types.TypeSpecRow.{TypeSpecRow}
use Rattle.il_base.specs.declared.world_model.types.ExportedTypeRow.{ExportedTypeRow}
use Rattle.il_base.specs.declared.world_model.types.GenericParamRow.{GenericParamRow}
use Rattle.il_base.specs.declared.world_model.types.GenericParamConstraintRow.{GenericParamConstraintRow}
use Rattle.il_base.specs.declared.world_model.members.FieldRow.{FieldRow}
use Rattle.il_base.specs.declared.world_model.members.MethodDefRow.{MethodDefRow}
use Rattle.il_base.specs.declared.world_model.members.ParamRow.{ParamRow}
use Rattle.il_base.specs.declared.world_model.members.MemberRefRow.{MemberRefRow}
use Rattle.il_base.specs.declared.world_model.members.MethodSpecRow.{MethodSpecRow}
use Rattle.il_base.specs.declared.world_model.members.StandAloneSigRow.{StandAloneSigRow}
use Rattle.il_base.specs.declared.world_model.members.PropertyRow.{PropertyRow}
use Rattle.il_base.specs.declared.world_model.members.PropertyMapRow.{PropertyMapRow}
use Rattle.il_base.specs.declared.world_model.members.EventRow.{EventRow}
use Rattle.il_base.specs.declared.world_model.members.EventMapRow.{EventMapRow}
use Rattle.il_base.specs.declared.world_model.members.MethodSemanticsRow.{MethodSemanticsRow}
use Rattle.il_base.specs.declared.world_model.members.MethodImplRow.{MethodImplRow}
use Rattle.il_base.specs.declared.world_model.extras.ConstantRow.{ConstantRow}
use Rattle.il_base.specs.declared.world_model.extras.CustomAttributeRow.{CustomAttributeRow}
use Rattle.il_base.specs.declared.world_model.extras.FieldMarshalRow.{FieldMarshalRow}
use Rattle.il_base.specs.declared.world_model.extras.DeclSecurityRow.{DeclSecurityRow}
use Rattle.il_base.specs.declared.world_model.extras.FieldLayoutRow.{FieldLayoutRow}
use Rattle.il_base.specs.declared.world_model.extras.FieldRvaRow.{FieldRvaRow}
use Rattle.il_base.specs.declared.world_model.extras.ImplMapRow.{ImplMapRow}
use Rattle.il_base.specs.declared.world_model.extras.ManifestResourceRow.{ManifestResourceRow}
use Rattle.il_base.specs.declared.world_model.extras.FileRow.{FileRow}
use Rattle.il_base.specs.declared.world_model.assemblies.ModuleRefRow.{ModuleRefRow}
use Rattle.il_base.specs.declared.world_model.assemblies.AssemblyRow.{AssemblyRow}
use Rattle.il_base.specs.declared.world_model.assemblies.AssemblyProcessorRow.{AssemblyProcessorRow}
use Rattle.il_base.specs.declared.world_model.assemblies.AssemblyOsRow.{AssemblyOsRow}
use Rattle.il_base.specs.declared.world_model.assemblies.AssemblyRefRow.{AssemblyRefRow}
use Rattle.il_base.specs.declared.world_model.assemblies.AssemblyRefProcessorRow.{AssemblyRefProcessorRow}
use Rattle.il_base.specs.declared.world_model.assemblies.AssemblyRefOsRow.{AssemblyRefOsRow}
use Rattle.il_base.specs.blob_grammar.Signatures.{type_bytes, field_bytes, property_bytes, instance_bytes}
use Rattle.rules.specs.file_layout.Rows.{method_blob, member_blob, locals_blob}
use Rattle.rules.specs.declared.record_layout.value.Value.{Value}
use Rattle.rules.specs.declared.record_layout.value.Value.TheVariants.{Number, Text, Blob, Guid, Token}

-- ---- signatures (II.23.2); one without a reading isn't written

abbrev pub spelled : {A : Type 0} → (A → List ℕ) → Known A → List ℕ
spelled bytes (Good x) = bytes x
spelled bytes (Bad why) = []

abbrev pub field_blob : Known Sig → List ℕ
field_blob = spelled field_bytes

abbrev pub property_blob : Known MethodSig → List ℕ
property_blob = spelled property_bytes

abbrev pub type_blob : Known Sig → List ℕ
type_blob = spelled type_bytes

abbrev pub instance_blob : Known (List Sig) → List ℕ
instance_blob = spelled instance_bytes

-- ---- types

abbrev pub type_ref_values : TypeRefRow → List Value
type_ref_values row = Token row.resolution_scope ∷ Text row.name ∷ Text row.namespace ∷ []

abbrev pub type_def_values : TypeDefRow → List Value
type_def_values row =
    Number row.flags ∷ Text row.name ∷ Text row.namespace ∷ Token row.extends ∷ Number row.field_list_first ∷ Number row.method_list_first ∷ []

abbrev pub interface_impl_values : InterfaceImplRow → List Value
interface_impl_values row = Token row.class ∷ Token row.interface ∷ []

abbrev pub class_layout_values : ClassLayoutRow → List Value
class_layout_values row = Number row.packing_size ∷ Number row.class_size ∷ Token row.parent ∷ []

abbrev pub type_spec_values : TypeSpecRow → List Value
type_spec_values row = Blob (type_blob row.signature) ∷ []

abbrev pub exported_type_values : ExportedTypeRow → List Value
exported_type_values row = Number row.flags ∷ Number row.type_def_id ∷ Text row.name ∷ Text row.namespace ∷ Token row.implementation ∷ []

abbrev pub nested_class_values : NestedClassRow → List Value
nested_class_values row = Token row.nested_class ∷ Token row.enclosing_class ∷ []

abbrev pub generic_param_values : GenericParamRow → List Value
generic_param_values row = Number row.number ∷ Number row.flags ∷ Token row.owner ∷ Text row.name ∷ []

abbrev pub generic_param_constraint_values : GenericParamConstraintRow → List Value
generic_param_constraint_values row = Token row.owner ∷ Token row.constraint ∷ []

-- ---- members

abbrev pub field_values : FieldRow → List Value
field_values row = Number row.flags ∷ Text row.name ∷ Blob (field_blob row.signature) ∷ []

-- the values of a method's row, with the RVA of its body
abbrev pub method_def_values : ℕ → MethodDefRow → List Value
method_def_values rva row =
    Number rva ∷ Number row.impl_flags ∷ Number row.flags ∷ Text row.name ∷ Blob (method_blob row.signature) ∷ Number row.param_list_first ∷ []

abbrev pub param_values : ParamRow → List Value
param_values row = Number row.flags ∷ Number row.sequence ∷ Text row.name ∷ []

abbrev pub member_ref_values : MemberRefRow → List Value
member_ref_values row = Token row.class ∷ Text row.name ∷ Blob (member_blob row.signature) ∷ []

abbrev pub stand_alone_sig_values : StandAloneSigRow → List Value
stand_alone_sig_values row = Blob (locals_blob row.signature) ∷ []

abbrev pub event_map_values : EventMapRow → List Value
event_map_values row = Token row.parent ∷ Number row.event_list_first ∷ []

abbrev pub event_values : EventRow → List Value
event_values row = Number row.event_flags ∷ Text row.name ∷ Token row.event_type ∷ []

abbrev pub property_map_values : PropertyMapRow → List Value
property_map_values row = Token row.parent ∷ Number row.property_list_first ∷ []

abbrev pub property_values : PropertyRow → List Value
property_values row = Number row.flags ∷ Text row.name ∷ Blob (property_blob row.signature) ∷ []

abbrev pub method_semantics_values : MethodSemanticsRow → List Value
method_semantics_values row = Number row.semantics ∷ Token row.method ∷ Token row.association ∷ []

abbrev pub method_impl_values : MethodImplRow → List Value
method_impl_values row = Token row.class ∷ Token row.body ∷ Token row.declaration ∷ []

abbrev pub method_spec_values : MethodSpecRow → List Value
method_spec_values row = Token row.method ∷ Blob (instance_blob row.instantiation) ∷ []

-- ---- what goes with members

-- the values of a Constant row; the byte beside the type is 0
abbrev pub constant_values : ConstantRow → List Value
constant_values row = Number row.kind ∷ Number 0 ∷ Token row.parent ∷ Blob row.value ∷ []

abbrev pub custom_attribute_values : CustomAttributeRow → List Value
custom_attribute_values row = Token row.parent ∷ Token row.ctor ∷ Blob row.value ∷ []

abbrev pub field_marshal_values : FieldMarshalRow → List Value
field_marshal_values row = Token row.parent ∷ Blob row.native_type ∷ []

abbrev pub decl_security_values : DeclSecurityRow → List Value
decl_security_values row = Number row.action ∷ Token row.parent ∷ Blob row.permission_set ∷ []

abbrev pub field_layout_values : FieldLayoutRow → List Value
field_layout_values row = Number row.offset ∷ Token row.field ∷ []

abbrev pub impl_map_values : ImplMapRow → List Value
impl_map_values row = Number row.mapping_flags ∷ Token row.member_forwarded ∷ Text row.import_name ∷ Token row.import_scope ∷ []

-- the values of a FieldRVA row, with the RVA of the field's bytes
abbrev pub field_rva_values : ℕ → FieldRvaRow → List Value
field_rva_values rva row = Number rva ∷ Token row.field ∷ []

-- ---- assemblies, modules and files

abbrev pub module_values : ModuleRow → List Value
module_values row = Number row.generation ∷ Text row.name ∷ Guid row.mvid ∷ Guid row.enc_id ∷ Guid row.enc_base_id ∷ []

abbrev pub module_ref_values : ModuleRefRow → List Value
module_ref_values row = Text row.name ∷ []

abbrev pub assembly_values : AssemblyRow → List Value
assembly_values row =
    Number row.hash_alg_id ∷ Number row.major_version ∷ Number row.minor_version ∷ Number row.build_number ∷ Number row.revision_number
    ∷ Number row.flags ∷ Blob row.public_key ∷ Text row.name ∷ Text row.culture ∷ []

abbrev pub assembly_processor_values : AssemblyProcessorRow → List Value
assembly_processor_values row = Number row.processor ∷ []

abbrev pub assembly_os_values : AssemblyOsRow → List Value
assembly_os_values row = Number row.platform_id ∷ Number row.major_version ∷ Number row.minor_version ∷ []

abbrev pub assembly_ref_values : AssemblyRefRow → List Value
assembly_ref_values row =
    Number row.major_version ∷ Number row.minor_version ∷ Number row.build_number ∷ Number row.revision_number ∷ Number row.flags
    ∷ Blob row.public_key_or_token ∷ Text row.name ∷ Text row.culture ∷ Blob row.hash_value ∷ []

abbrev pub assembly_ref_processor_values : AssemblyRefProcessorRow → List Value
assembly_ref_processor_values row = Number row.processor ∷ Token row.assembly_ref ∷ []

abbrev pub assembly_ref_os_values : AssemblyRefOsRow → List Value
assembly_ref_os_values row = Number row.platform_id ∷ Number row.major_version ∷ Number row.minor_version ∷ Token row.assembly_ref ∷ []

abbrev pub file_values : FileRow → List Value
file_values row = Number row.flags ∷ Text row.name ∷ Blob row.hash_value ∷ []

abbrev pub manifest_resource_values : ManifestResourceRow → List Value
manifest_resource_values row = Number row.offset ∷ Number row.flags ∷ Text row.name ∷ Token row.implementation ∷ []
