-- The rows of all tables, in the groups of `AllTables`. `bs` are the bytes of the file.
use Rattle.std.specs.Prelude.{ℕ, List}
use Rattle.il_base.specs.declared.table.TheConstants.{MODULE, TYPE_REF, TYPE_DEF, FIELD, PARAM, INTERFACE_IMPL, MEMBER_REF, CONSTANT, CUSTOM_ATTRIBUTE, FIELD_MARSHAL, DECL_SECURITY, CLASS_LAYOUT, FIELD_LAYOUT, STAND_ALONE_SIG, EVENT_MAP, EVENT, PROPERTY_MAP, PROPERTY, METHOD_SEMANTICS, METHOD_IMPL, MODULE_REF, TYPE_SPEC, IMPL_MAP, FIELD_RVA, ASSEMBLY, ASSEMBLY_PROCESSOR, ASSEMBLY_OS, ASSEMBLY_REF, ASSEMBLY_REF_PROCESSOR, ASSEMBLY_REF_OS, FILE, EXPORTED_TYPE, MANIFEST_RESOURCE, NESTED_CLASS, GENERIC_PARAM, METHOD_SPEC, GENERIC_PARAM_CONSTRAINT}
use Rattle.world_reader.specs.declared.tables.AssemblyTables.{AssemblyTables}
use Rattle.world_reader.specs.declared.tables.FileTables.{FileTables}
use Rattle.world_reader.specs.declared.tables.TypeTables.{TypeTables}
use Rattle.world_reader.specs.declared.tables.FieldTables.{FieldTables}
use Rattle.world_reader.specs.declared.tables.MethodTables.{MethodTables}
use Rattle.world_reader.specs.declared.tables.PropertyTables.{PropertyTables}
use Rattle.world_reader.specs.declared.tables.ExtraTables.{ExtraTables}
use Rattle.world_reader.specs.declared.tables.AllTables.{AllTables}
use Rattle.il_base.specs.declared.cli_format.stream.StreamName.TheVariants.{UserStrings}
use Rattle.il_base.specs.cli_format.Image.{metadata_of, resources_of}
use Rattle.il_base.specs.cli_format.Streams.{heap}
use Rattle.rules.specs.record_format.Cells.{all_rows}
use Rattle.rules.specs.record_format.Types.{module_row, module_ref_row, assembly_row, assembly_processor_row, assembly_os_row, assembly_ref_row, assembly_ref_processor_row, assembly_ref_os_row, exported_type_row, type_ref_row, type_def_row, interface_impl_row, type_spec_row, nested_class_row, generic_param_row, generic_param_constraint_row, class_layout_row}
use Rattle.rules.specs.record_format.Members.{field_row, param_row, method_impl_row, method_spec_row, stand_alone_sig_row, event_map_row, event_row, property_map_row, property_row, method_semantics_row, member_ref_row}
use Rattle.rules.specs.record_format.Others.{file_row, manifest_resource_row, field_rva_row, field_layout_row, field_marshal_row, constant_row, custom_attribute_row, decl_security_row, impl_map_row}
use Rattle.rules.specs.record_format.Texts.{all_texts, descriptor_in}
use Rattle.rules.specs.record_format.Record.{methods_of}

unfoldable pub assembly_tables : List ℕ → AssemblyTables
assembly_tables bs =
    let m = metadata_of bs in
    record {
      «module» = all_rows m MODULE (module_row m);
      module_ref = all_rows m MODULE_REF (module_ref_row m);
      assembly = all_rows m ASSEMBLY (assembly_row m);
      assembly_processor = all_rows m ASSEMBLY_PROCESSOR (assembly_processor_row m);
      assembly_os = all_rows m ASSEMBLY_OS (assembly_os_row m);
      assembly_ref = all_rows m ASSEMBLY_REF (assembly_ref_row m);
      assembly_ref_processor = all_rows m ASSEMBLY_REF_PROCESSOR (assembly_ref_processor_row m);
      assembly_ref_os = all_rows m ASSEMBLY_REF_OS (assembly_ref_os_row m);
    }

unfoldable pub file_tables : List ℕ → FileTables
file_tables bs =
    let m = metadata_of bs in
    record {
      file = all_rows m FILE (file_row m);
      exported_type = all_rows m EXPORTED_TYPE (exported_type_row m);
      manifest_resource = all_rows m MANIFEST_RESOURCE (manifest_resource_row m);
      descriptor = descriptor_in (all_rows m MANIFEST_RESOURCE (manifest_resource_row m)) (resources_of bs);
    }

unfoldable pub type_tables : List ℕ → TypeTables
type_tables bs =
    let m = metadata_of bs in
    record {
      type_ref = all_rows m TYPE_REF (type_ref_row m);
      type_def = all_rows m TYPE_DEF (type_def_row m);
      interface_impl = all_rows m INTERFACE_IMPL (interface_impl_row m);
      type_spec = all_rows m TYPE_SPEC (type_spec_row m);
      nested_class = all_rows m NESTED_CLASS (nested_class_row m);
      generic_param = all_rows m GENERIC_PARAM (generic_param_row m);
      generic_param_constraint = all_rows m GENERIC_PARAM_CONSTRAINT (generic_param_constraint_row m);
    }

unfoldable pub field_tables : List ℕ → FieldTables
field_tables bs =
    let m = metadata_of bs in
    record {
      field = all_rows m FIELD (field_row m);
      class_layout = all_rows m CLASS_LAYOUT (class_layout_row m);
      field_rva = all_rows m FIELD_RVA (field_rva_row bs m (all_rows m CLASS_LAYOUT (class_layout_row m)) (all_rows m FIELD (field_row m)));
      field_layout = all_rows m FIELD_LAYOUT (field_layout_row m);
      field_marshal = all_rows m FIELD_MARSHAL (field_marshal_row m);
    }

unfoldable pub method_tables : List ℕ → MethodTables
method_tables bs =
    let m = metadata_of bs in
    record {
      method_def = methods_of bs;
      param = all_rows m PARAM (param_row m);
      method_impl = all_rows m METHOD_IMPL (method_impl_row m);
      method_spec = all_rows m METHOD_SPEC (method_spec_row m);
      stand_alone_sig = all_rows m STAND_ALONE_SIG (stand_alone_sig_row m);
      user = all_texts (heap m UserStrings) (methods_of bs);
    }

unfoldable pub property_tables : List ℕ → PropertyTables
property_tables bs =
    let m = metadata_of bs in
    record {
      event_map = all_rows m EVENT_MAP (event_map_row m);
      event = all_rows m EVENT (event_row m);
      property_map = all_rows m PROPERTY_MAP (property_map_row m);
      property = all_rows m PROPERTY (property_row m);
      method_semantics = all_rows m METHOD_SEMANTICS (method_semantics_row m);
    }

unfoldable pub extra_tables : List ℕ → ExtraTables
extra_tables bs =
    let m = metadata_of bs in
    record {
      member_ref = all_rows m MEMBER_REF (member_ref_row m);
      constant = all_rows m CONSTANT (constant_row m);
      custom_attribute = all_rows m CUSTOM_ATTRIBUTE (custom_attribute_row m);
      decl_security = all_rows m DECL_SECURITY (decl_security_row m);
      impl_map = all_rows m IMPL_MAP (impl_map_row m);
    }

unfoldable pub all_tables : List ℕ → AllTables
all_tables bs = record {
  assemblies = assembly_tables bs;
  files = file_tables bs;
  types = type_tables bs;
  fields = field_tables bs;
  methods = method_tables bs;
  properties = property_tables bs;
  extras = extra_tables bs;
}
