-- Rows of plain values are read again: each column gives what the row has there.
use Rattle.std.proofs.Common.{◌≡◌, ℕ, List}
use Rattle.il_base.specs.declared.world_model.types.ModuleRow.{ModuleRow}
use Rattle.il_base.specs.declared.world_model.types.TypeRefRow.{TypeRefRow}
use Rattle.il_base.specs.declared.world_model.members.ParamRow.{ParamRow}
use Rattle.il_base.specs.declared.world_model.types.InterfaceImplRow.{InterfaceImplRow}
use Rattle.il_base.specs.declared.world_model.extras.ConstantRow.{ConstantRow}
use Rattle.il_base.specs.declared.world_model.extras.CustomAttributeRow.{CustomAttributeRow}
use Rattle.il_base.specs.declared.world_model.extras.FieldMarshalRow.{FieldMarshalRow}
use Rattle.il_base.specs.declared.world_model.extras.DeclSecurityRow.{DeclSecurityRow}
use Rattle.il_base.specs.declared.world_model.types.ClassLayoutRow.{ClassLayoutRow}
use Rattle.il_base.specs.declared.world_model.extras.FieldLayoutRow.{FieldLayoutRow}
use Rattle.il_base.specs.declared.world_model.members.EventRow.{EventRow}
use Rattle.il_base.specs.declared.world_model.members.MethodSemanticsRow.{MethodSemanticsRow}
use Rattle.il_base.specs.declared.world_model.members.MethodImplRow.{MethodImplRow}
use Rattle.il_base.specs.declared.world_model.assemblies.ModuleRefRow.{ModuleRefRow}
use Rattle.il_base.specs.declared.world_model.extras.ImplMapRow.{ImplMapRow}
use Rattle.il_base.specs.declared.world_model.assemblies.AssemblyRow.{AssemblyRow}
use Rattle.il_base.specs.declared.world_model.assemblies.AssemblyProcessorRow.{AssemblyProcessorRow}
use Rattle.il_base.specs.declared.world_model.assemblies.AssemblyOsRow.{AssemblyOsRow}
use Rattle.il_base.specs.declared.world_model.assemblies.AssemblyRefRow.{AssemblyRefRow}
use Rattle.il_base.specs.declared.world_model.assemblies.AssemblyRefProcessorRow.{AssemblyRefProcessorRow}
use Rattle.il_base.specs.declared.world_model.assemblies.AssemblyRefOsRow.{AssemblyRefOsRow}
use Rattle.il_base.specs.declared.world_model.extras.FileRow.{FileRow}
use Rattle.il_base.specs.declared.world_model.types.ExportedTypeRow.{ExportedTypeRow}
use Rattle.il_base.specs.declared.world_model.extras.ManifestResourceRow.{ManifestResourceRow}
use Rattle.il_base.specs.declared.world_model.types.NestedClassRow.{NestedClassRow}
use Rattle.il_base.specs.declared.world_model.types.GenericParamRow.{GenericParamRow}
use Rattle.il_base.specs.declared.world_model.types.GenericParamConstraintRow.{GenericParamConstraintRow}
use Rattle.rules.specs.record_format.Types.{module_row, type_ref_row, interface_impl_row, class_layout_row, module_ref_row, assembly_row, assembly_processor_row, assembly_os_row, assembly_ref_row, assembly_ref_processor_row, assembly_ref_os_row, exported_type_row, nested_class_row, generic_param_row, generic_param_constraint_row}
use Rattle.rules.specs.record_format.Members.{param_row, event_row, method_semantics_row, method_impl_row}
use Rattle.rules.specs.record_format.Others.{constant_row, custom_attribute_row, field_marshal_row, decl_security_row, field_layout_row, impl_map_row, file_row, manifest_resource_row}
use Rattle.rules.specs.record_layout.Rows.{module_values, type_ref_values, param_values, interface_impl_values, constant_values, custom_attribute_values, field_marshal_values, decl_security_values, class_layout_values, field_layout_values, event_values, method_semantics_values, method_impl_values, module_ref_values, impl_map_values, assembly_values, assembly_processor_values, assembly_os_values, assembly_ref_values, assembly_ref_processor_values, assembly_ref_os_values, file_values, exported_type_values, manifest_resource_values, nested_class_values, generic_param_values, generic_param_constraint_values}
use Rattle.file_laws.proofs.lemmas.layout_laws.ValuesRead.{RowReads}

pub module_again : (m : List ℕ) (r : ℕ) (row : ModuleRow) → RowReads m 0x00 r (module_values row) → module_row m r ≡ row
unfolding module_row
module_again m r row h = λ i. record { generation = h 0 i; name = h 1 i; mvid = h 2 i; enc_id = h 3 i; enc_base_id = h 4 i }

pub type_ref_again : (m : List ℕ) (r : ℕ) (row : TypeRefRow) → RowReads m 0x01 r (type_ref_values row) → type_ref_row m r ≡ row
unfolding type_ref_row
type_ref_again m r row h = λ i. record { resolution_scope = h 0 i; name = h 1 i; namespace = h 2 i }

pub param_again : (m : List ℕ) (r : ℕ) (row : ParamRow) → RowReads m 0x08 r (param_values row) → param_row m r ≡ row
unfolding param_row
param_again m r row h = λ i. record { flags = h 0 i; sequence = h 1 i; name = h 2 i }

pub interface_impl_again : (m : List ℕ) (r : ℕ) (row : InterfaceImplRow) → RowReads m 0x09 r (interface_impl_values row) → interface_impl_row m r ≡ row
unfolding interface_impl_row
interface_impl_again m r row h = λ i. record { class = h 0 i; interface = h 1 i }

pub constant_again : (m : List ℕ) (r : ℕ) (row : ConstantRow) → RowReads m 0x0b r (constant_values row) → constant_row m r ≡ row
unfolding constant_row
constant_again m r row h = λ i. record { kind = h 0 i; parent = h 2 i; value = h 3 i }

pub custom_attribute_again : (m : List ℕ) (r : ℕ) (row : CustomAttributeRow) → RowReads m 0x0c r (custom_attribute_values row) → custom_attribute_row m r ≡ row
unfolding custom_attribute_row
custom_attribute_again m r row h = λ i. record { parent = h 0 i; ctor = h 1 i; value = h 2 i }

pub field_marshal_again : (m : List ℕ) (r : ℕ) (row : FieldMarshalRow) → RowReads m 0x0d r (field_marshal_values row) → field_marshal_row m r ≡ row
unfolding field_marshal_row
field_marshal_again m r row h = λ i. record { parent = h 0 i; native_type = h 1 i }

pub decl_security_again : (m : List ℕ) (r : ℕ) (row : DeclSecurityRow) → RowReads m 0x0e r (decl_security_values row) → decl_security_row m r ≡ row
unfolding decl_security_row
decl_security_again m r row h = λ i. record { action = h 0 i; parent = h 1 i; permission_set = h 2 i }

pub class_layout_again : (m : List ℕ) (r : ℕ) (row : ClassLayoutRow) → RowReads m 0x0f r (class_layout_values row) → class_layout_row m r ≡ row
unfolding class_layout_row
class_layout_again m r row h = λ i. record { packing_size = h 0 i; class_size = h 1 i; parent = h 2 i }

pub field_layout_again : (m : List ℕ) (r : ℕ) (row : FieldLayoutRow) → RowReads m 0x10 r (field_layout_values row) → field_layout_row m r ≡ row
unfolding field_layout_row
field_layout_again m r row h = λ i. record { offset = h 0 i; field = h 1 i }

pub event_again : (m : List ℕ) (r : ℕ) (row : EventRow) → RowReads m 0x14 r (event_values row) → event_row m r ≡ row
unfolding event_row
event_again m r row h = λ i. record { event_flags = h 0 i; name = h 1 i; event_type = h 2 i }

pub method_semantics_again : (m : List ℕ) (r : ℕ) (row : MethodSemanticsRow) → RowReads m 0x18 r (method_semantics_values row) → method_semantics_row m r ≡ row
unfolding method_semantics_row
method_semantics_again m r row h = λ i. record { semantics = h 0 i; method = h 1 i; association = h 2 i }

pub method_impl_again : (m : List ℕ) (r : ℕ) (row : MethodImplRow) → RowReads m 0x19 r (method_impl_values row) → method_impl_row m r ≡ row
unfolding method_impl_row
method_impl_again m r row h = λ i. record { class = h 0 i; body = h 1 i; declaration = h 2 i }

pub module_ref_again : (m : List ℕ) (r : ℕ) (row : ModuleRefRow) → RowReads m 0x1a r (module_ref_values row) → module_ref_row m r ≡ row
unfolding module_ref_row
module_ref_again m r row h = λ i. record { name = h 0 i }

pub impl_map_again : (m : List ℕ) (r : ℕ) (row : ImplMapRow) → RowReads m 0x1c r (impl_map_values row) → impl_map_row m r ≡ row
unfolding impl_map_row
impl_map_again m r row h = λ i. record { mapping_flags = h 0 i; member_forwarded = h 1 i; import_name = h 2 i; import_scope = h 3 i }

pub assembly_again : (m : List ℕ) (r : ℕ) (row : AssemblyRow) → RowReads m 0x20 r (assembly_values row) → assembly_row m r ≡ row
unfolding assembly_row
assembly_again m r row h = λ i. record { hash_alg_id = h 0 i; major_version = h 1 i; minor_version = h 2 i; build_number = h 3 i; revision_number = h 4 i; flags = h 5 i; public_key = h 6 i; name = h 7 i; culture = h 8 i }

pub assembly_processor_again : (m : List ℕ) (r : ℕ) (row : AssemblyProcessorRow) → RowReads m 0x21 r (assembly_processor_values row) → assembly_processor_row m r ≡ row
unfolding assembly_processor_row
assembly_processor_again m r row h = λ i. record { processor = h 0 i }

pub assembly_os_again : (m : List ℕ) (r : ℕ) (row : AssemblyOsRow) → RowReads m 0x22 r (assembly_os_values row) → assembly_os_row m r ≡ row
unfolding assembly_os_row
assembly_os_again m r row h = λ i. record { platform_id = h 0 i; major_version = h 1 i; minor_version = h 2 i }

pub assembly_ref_again : (m : List ℕ) (r : ℕ) (row : AssemblyRefRow) → RowReads m 0x23 r (assembly_ref_values row) → assembly_ref_row m r ≡ row
unfolding assembly_ref_row
assembly_ref_again m r row h = λ i. record { major_version = h 0 i; minor_version = h 1 i; build_number = h 2 i; revision_number = h 3 i; flags = h 4 i; public_key_or_token = h 5 i; name = h 6 i; culture = h 7 i; hash_value = h 8 i }

pub assembly_ref_processor_again : (m : List ℕ) (r : ℕ) (row : AssemblyRefProcessorRow) → RowReads m 0x24 r (assembly_ref_processor_values row) → assembly_ref_processor_row m r ≡ row
unfolding assembly_ref_processor_row
assembly_ref_processor_again m r row h = λ i. record { processor = h 0 i; assembly_ref = h 1 i }

pub assembly_ref_os_again : (m : List ℕ) (r : ℕ) (row : AssemblyRefOsRow) → RowReads m 0x25 r (assembly_ref_os_values row) → assembly_ref_os_row m r ≡ row
unfolding assembly_ref_os_row
assembly_ref_os_again m r row h = λ i. record { platform_id = h 0 i; major_version = h 1 i; minor_version = h 2 i; assembly_ref = h 3 i }

pub file_again : (m : List ℕ) (r : ℕ) (row : FileRow) → RowReads m 0x26 r (file_values row) → file_row m r ≡ row
unfolding file_row
file_again m r row h = λ i. record { flags = h 0 i; name = h 1 i; hash_value = h 2 i }

pub exported_type_again : (m : List ℕ) (r : ℕ) (row : ExportedTypeRow) → RowReads m 0x27 r (exported_type_values row) → exported_type_row m r ≡ row
unfolding exported_type_row
exported_type_again m r row h = λ i. record { flags = h 0 i; type_def_id = h 1 i; name = h 2 i; namespace = h 3 i; implementation = h 4 i }

pub manifest_resource_again : (m : List ℕ) (r : ℕ) (row : ManifestResourceRow) → RowReads m 0x28 r (manifest_resource_values row) → manifest_resource_row m r ≡ row
unfolding manifest_resource_row
manifest_resource_again m r row h = λ i. record { offset = h 0 i; flags = h 1 i; name = h 2 i; implementation = h 3 i }

pub nested_class_again : (m : List ℕ) (r : ℕ) (row : NestedClassRow) → RowReads m 0x29 r (nested_class_values row) → nested_class_row m r ≡ row
unfolding nested_class_row
nested_class_again m r row h = λ i. record { nested_class = h 0 i; enclosing_class = h 1 i }

pub generic_param_again : (m : List ℕ) (r : ℕ) (row : GenericParamRow) → RowReads m 0x2a r (generic_param_values row) → generic_param_row m r ≡ row
unfolding generic_param_row
generic_param_again m r row h = λ i. record { number = h 0 i; flags = h 1 i; owner = h 2 i; name = h 3 i }

pub generic_param_constraint_again : (m : List ℕ) (r : ℕ) (row : GenericParamConstraintRow) → RowReads m 0x2c r (generic_param_constraint_values row) → generic_param_constraint_row m r ≡ row
unfolding generic_param_constraint_row
generic_param_constraint_again m r row h = λ i. record { owner = h 0 i; constraint = h 1 i }
