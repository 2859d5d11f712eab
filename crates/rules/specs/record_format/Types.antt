-- The rows on assemblies, modules and types (II.22). `m` are the bytes of the metadata, rows are counted from 1.
use Rattle.std.specs.Prelude.{ℕ, List}
use Rattle.il_base.specs.declared.table.TheConstants.{MODULE, TYPE_REF, TYPE_DEF, FIELD, METHOD_DEF, INTERFACE_IMPL, CLASS_LAYOUT, MODULE_REF, TYPE_SPEC, ASSEMBLY, ASSEMBLY_PROCESSOR, ASSEMBLY_OS, ASSEMBLY_REF, ASSEMBLY_REF_PROCESSOR, ASSEMBLY_REF_OS, EXPORTED_TYPE, NESTED_CLASS, GENERIC_PARAM, GENERIC_PARAM_CONSTRAINT}
use Rattle.il_base.specs.declared.world_model.types.ModuleRow.{ModuleRow}
use Rattle.il_base.specs.declared.world_model.types.TypeRefRow.{TypeRefRow}
use Rattle.il_base.specs.declared.world_model.types.TypeDefRow.{TypeDefRow}
use Rattle.il_base.specs.declared.world_model.types.InterfaceImplRow.{InterfaceImplRow}
use Rattle.il_base.specs.declared.world_model.types.NestedClassRow.{NestedClassRow}
use Rattle.il_base.specs.declared.world_model.types.ClassLayoutRow.{ClassLayoutRow}
use Rattle.il_base.specs.declared.world_model.types.TypeSpecRow.{TypeSpecRow}
use Rattle.il_base.specs.declared.world_model.types.ExportedTypeRow.{ExportedTypeRow}
use Rattle.il_base.specs.declared.world_model.types.GenericParamRow.{GenericParamRow}
use Rattle.il_base.specs.declared.world_model.types.GenericParamConstraintRow.{GenericParamConstraintRow}
use Rattle.il_base.specs.declared.world_model.assemblies.ModuleRefRow.{ModuleRefRow}
use Rattle.il_base.specs.declared.world_model.assemblies.AssemblyRow.{AssemblyRow}
use Rattle.il_base.specs.declared.world_model.assemblies.AssemblyProcessorRow.{AssemblyProcessorRow}
use Rattle.il_base.specs.declared.world_model.assemblies.AssemblyOsRow.{AssemblyOsRow}
use Rattle.il_base.specs.declared.world_model.assemblies.AssemblyRefRow.{AssemblyRefRow}
use Rattle.il_base.specs.declared.world_model.assemblies.AssemblyRefProcessorRow.{AssemblyRefProcessorRow}
use Rattle.il_base.specs.declared.world_model.assemblies.AssemblyRefOsRow.{AssemblyRefOsRow}
use Rattle.il_base.specs.blob_grammar.Reading.{type_of_blob}
use Rattle.rules.specs.record_format.Cells.{number_in, text_in, blob_in, guid_in, token_in, run_end}
use Rattle.rules.specs.record_format.Parts.{known_of}

-- ---- types

unfoldable pub module_row : List ℕ → ℕ → ModuleRow
module_row m r = record {
  generation = number_in m MODULE 0 r;
  name = text_in m MODULE 1 r;
  mvid = guid_in m MODULE 2 r;
  enc_id = guid_in m MODULE 3 r;
  enc_base_id = guid_in m MODULE 4 r;
}

unfoldable pub type_ref_row : List ℕ → ℕ → TypeRefRow
type_ref_row m r = record { resolution_scope = token_in m TYPE_REF 0 r; name = text_in m TYPE_REF 1 r; namespace = text_in m TYPE_REF 2 r }

unfoldable pub type_def_row : List ℕ → ℕ → TypeDefRow
type_def_row m r = record {
  flags = number_in m TYPE_DEF 0 r;
  name = text_in m TYPE_DEF 1 r;
  namespace = text_in m TYPE_DEF 2 r;
  extends = token_in m TYPE_DEF 3 r;
  field_list_first = number_in m TYPE_DEF 4 r;
  field_list_end = run_end m TYPE_DEF 4 FIELD r;
  method_list_first = number_in m TYPE_DEF 5 r;
  method_list_end = run_end m TYPE_DEF 5 METHOD_DEF r;
}

unfoldable pub interface_impl_row : List ℕ → ℕ → InterfaceImplRow
interface_impl_row m r = record { class = token_in m INTERFACE_IMPL 0 r; interface = token_in m INTERFACE_IMPL 1 r }

unfoldable pub class_layout_row : List ℕ → ℕ → ClassLayoutRow
class_layout_row m r = record { packing_size = number_in m CLASS_LAYOUT 0 r; class_size = number_in m CLASS_LAYOUT 1 r; parent = token_in m CLASS_LAYOUT 2 r }

unfoldable pub type_spec_row : List ℕ → ℕ → TypeSpecRow
type_spec_row m r = record { signature = known_of (type_of_blob (blob_in m TYPE_SPEC 0 r)) }

unfoldable pub exported_type_row : List ℕ → ℕ → ExportedTypeRow
exported_type_row m r = record {
  flags = number_in m EXPORTED_TYPE 0 r;
  type_def_id = number_in m EXPORTED_TYPE 1 r;
  name = text_in m EXPORTED_TYPE 2 r;
  namespace = text_in m EXPORTED_TYPE 3 r;
  implementation = token_in m EXPORTED_TYPE 4 r;
}

unfoldable pub nested_class_row : List ℕ → ℕ → NestedClassRow
nested_class_row m r = record { nested_class = token_in m NESTED_CLASS 0 r; enclosing_class = token_in m NESTED_CLASS 1 r }

unfoldable pub generic_param_row : List ℕ → ℕ → GenericParamRow
generic_param_row m r = record {
  number = number_in m GENERIC_PARAM 0 r;
  flags = number_in m GENERIC_PARAM 1 r;
  owner = token_in m GENERIC_PARAM 2 r;
  name = text_in m GENERIC_PARAM 3 r;
}

unfoldable pub generic_param_constraint_row : List ℕ → ℕ → GenericParamConstraintRow
generic_param_constraint_row m r = record { owner = token_in m GENERIC_PARAM_CONSTRAINT 0 r; constraint = token_in m GENERIC_PARAM_CONSTRAINT 1 r }

-- ---- assemblies and modules

unfoldable pub module_ref_row : List ℕ → ℕ → ModuleRefRow
module_ref_row m r = record { name = text_in m MODULE_REF 0 r }

unfoldable pub assembly_row : List ℕ → ℕ → AssemblyRow
assembly_row m r = record {
  hash_alg_id = number_in m ASSEMBLY 0 r;
  major_version = number_in m ASSEMBLY 1 r;
  minor_version = number_in m ASSEMBLY 2 r;
  build_number = number_in m ASSEMBLY 3 r;
  revision_number = number_in m ASSEMBLY 4 r;
  flags = number_in m ASSEMBLY 5 r;
  public_key = blob_in m ASSEMBLY 6 r;
  name = text_in m ASSEMBLY 7 r;
  culture = text_in m ASSEMBLY 8 r;
}

unfoldable pub assembly_processor_row : List ℕ → ℕ → AssemblyProcessorRow
assembly_processor_row m r = record { processor = number_in m ASSEMBLY_PROCESSOR 0 r }

unfoldable pub assembly_os_row : List ℕ → ℕ → AssemblyOsRow
assembly_os_row m r = record { platform_id = number_in m ASSEMBLY_OS 0 r; major_version = number_in m ASSEMBLY_OS 1 r; minor_version = number_in m ASSEMBLY_OS 2 r }

unfoldable pub assembly_ref_row : List ℕ → ℕ → AssemblyRefRow
assembly_ref_row m r = record {
  major_version = number_in m ASSEMBLY_REF 0 r;
  minor_version = number_in m ASSEMBLY_REF 1 r;
  build_number = number_in m ASSEMBLY_REF 2 r;
  revision_number = number_in m ASSEMBLY_REF 3 r;
  flags = number_in m ASSEMBLY_REF 4 r;
  public_key_or_token = blob_in m ASSEMBLY_REF 5 r;
  name = text_in m ASSEMBLY_REF 6 r;
  culture = text_in m ASSEMBLY_REF 7 r;
  hash_value = blob_in m ASSEMBLY_REF 8 r;
}

unfoldable pub assembly_ref_processor_row : List ℕ → ℕ → AssemblyRefProcessorRow
assembly_ref_processor_row m r = record { processor = number_in m ASSEMBLY_REF_PROCESSOR 0 r; assembly_ref = token_in m ASSEMBLY_REF_PROCESSOR 1 r }

unfoldable pub assembly_ref_os_row : List ℕ → ℕ → AssemblyRefOsRow
assembly_ref_os_row m r = record {
  platform_id = number_in m ASSEMBLY_REF_OS 0 r;
  major_version = number_in m ASSEMBLY_REF_OS 1 r;
  minor_version = number_in m ASSEMBLY_REF_OS 2 r;
  assembly_ref = token_in m ASSEMBLY_REF_OS 3 r;
}
