-- The record of a file: the demands on its bytes, and each part of the record as a function of them.
use Rattle.std.specs.Prelude.{◌≡◌, ℕ, ◌+◌, ◌&&◌, List, ◌++◌, map, nat_lt, Option, Some, None, if◌then◌else◌}
use Rattle.il_base.specs.declared.table.TheConstants.{MODULE, TYPE_REF, TYPE_DEF, FIELD, METHOD_DEF, PARAM, INTERFACE_IMPL, MEMBER_REF, CONSTANT, CUSTOM_ATTRIBUTE, FIELD_MARSHAL, DECL_SECURITY, CLASS_LAYOUT, FIELD_LAYOUT, STAND_ALONE_SIG, EVENT_MAP, EVENT, PROPERTY_MAP, PROPERTY, METHOD_SEMANTICS, METHOD_IMPL, MODULE_REF, TYPE_SPEC, IMPL_MAP, FIELD_RVA, ASSEMBLY, ASSEMBLY_PROCESSOR, ASSEMBLY_OS, ASSEMBLY_REF, ASSEMBLY_REF_PROCESSOR, ASSEMBLY_REF_OS, FILE, EXPORTED_TYPE, MANIFEST_RESOURCE, NESTED_CLASS, GENERIC_PARAM, METHOD_SPEC, GENERIC_PARAM_CONSTRAINT}
use Rattle.il_base.specs.declared.ids.BadAt.{BadAt}
use Rattle.il_base.specs.declared.cli_format.error.TablesError.{TablesError}
use Rattle.il_base.specs.declared.cli_format.error.TablesError.TheVariants.{Bad}
use Rattle.il_base.specs.declared.cli_format.stream.StreamName.TheVariants.{UserStrings}
use Rattle.il_base.specs.cli_format.Demand.{Demand, first_fault}
use Rattle.il_base.specs.cli_format.Image.{image_demands, metadata_of, metadata_place_of, cli_flags_of, subsystem_of, entry_token_of, resources_of}
use Rattle.il_base.specs.cli_format.Streams.{heap}
use Rattle.il_base.specs.cli_format.Tables.{names_row, row_place}
use Rattle.il_base.specs.cli_format.Metadata.{tables_demands, tables_stream, tables_base}
use Rattle.il_base.specs.declared.world_model.members.MethodDefRow.{MethodDefRow}
use Rattle.il_base.specs.declared.world_model.record.AsmRec.{AsmRec}
use Rattle.il_base.specs.world_model.Tokens.{table_of, row_of}
use Rattle.rules.specs.record_format.Cells.{all_rows}
use Rattle.rules.specs.record_format.Types.{module_row, type_ref_row, type_def_row, interface_impl_row, class_layout_row, type_spec_row, exported_type_row, nested_class_row, generic_param_row, generic_param_constraint_row, module_ref_row, assembly_row, assembly_processor_row, assembly_os_row, assembly_ref_row, assembly_ref_processor_row, assembly_ref_os_row}
use Rattle.rules.specs.record_format.Members.{field_row, method_def_row, param_row, member_ref_row, stand_alone_sig_row, event_map_row, event_row, property_map_row, property_row, method_semantics_row, method_impl_row, method_spec_row}
use Rattle.rules.specs.record_format.Others.{constant_row, custom_attribute_row, field_marshal_row, decl_security_row, field_layout_row, impl_map_row, field_rva_row, file_row, manifest_resource_row}
use Rattle.rules.specs.record_format.Texts.{all_texts, descriptor_in}

-- ---- demands

abbrev pub as_demand : Demand BadAt → Demand TablesError
as_demand d = record { holds = d.holds; refusal = Bad d.refusal }

-- everything that a file must meet, in order: its image, then its metadata
unfoldable pub record_demands : List ℕ → List (Demand TablesError)
record_demands bs = map as_demand (image_demands bs) ++ tables_demands (metadata_of bs) (metadata_place_of bs)

-- ---- the record

abbrev pub methods_of : List ℕ → List MethodDefRow
methods_of bs = all_rows (metadata_of bs) METHOD_DEF (method_def_row bs (metadata_of bs))

-- the record of a file that meets the demands
unfoldable pub record_at : List ℕ → AsmRec
record_at bs =
    let m = metadata_of bs in
    record {
      bits = cli_flags_of bs;
      subsystem = subsystem_of bs;
      entry = entry_token_of bs;
      descriptor = descriptor_in (all_rows m MANIFEST_RESOURCE (manifest_resource_row m)) (resources_of bs);
      «module» = all_rows m MODULE (module_row m);
      type_ref = all_rows m TYPE_REF (type_ref_row m);
      type_def = all_rows m TYPE_DEF (type_def_row m);
      field = all_rows m FIELD (field_row m);
      method_def = methods_of bs;
      param = all_rows m PARAM (param_row m);
      interface_impl = all_rows m INTERFACE_IMPL (interface_impl_row m);
      member_ref = all_rows m MEMBER_REF (member_ref_row m);
      constant = all_rows m CONSTANT (constant_row m);
      custom_attribute = all_rows m CUSTOM_ATTRIBUTE (custom_attribute_row m);
      field_marshal = all_rows m FIELD_MARSHAL (field_marshal_row m);
      decl_security = all_rows m DECL_SECURITY (decl_security_row m);
      class_layout = all_rows m CLASS_LAYOUT (class_layout_row m);
      field_layout = all_rows m FIELD_LAYOUT (field_layout_row m);
      stand_alone_sig = all_rows m STAND_ALONE_SIG (stand_alone_sig_row m);
      event_map = all_rows m EVENT_MAP (event_map_row m);
      event = all_rows m EVENT (event_row m);
      property_map = all_rows m PROPERTY_MAP (property_map_row m);
      property = all_rows m PROPERTY (property_row m);
      method_semantics = all_rows m METHOD_SEMANTICS (method_semantics_row m);
      method_impl = all_rows m METHOD_IMPL (method_impl_row m);
      module_ref = all_rows m MODULE_REF (module_ref_row m);
      type_spec = all_rows m TYPE_SPEC (type_spec_row m);
      impl_map = all_rows m IMPL_MAP (impl_map_row m);
      field_rva = all_rows m FIELD_RVA (field_rva_row bs m (all_rows m CLASS_LAYOUT (class_layout_row m)) (all_rows m FIELD (field_row m)));
      assembly = all_rows m ASSEMBLY (assembly_row m);
      assembly_processor = all_rows m ASSEMBLY_PROCESSOR (assembly_processor_row m);
      assembly_os = all_rows m ASSEMBLY_OS (assembly_os_row m);
      assembly_ref = all_rows m ASSEMBLY_REF (assembly_ref_row m);
      assembly_ref_processor = all_rows m ASSEMBLY_REF_PROCESSOR (assembly_ref_processor_row m);
      assembly_ref_os = all_rows m ASSEMBLY_REF_OS (assembly_ref_os_row m);
      file = all_rows m FILE (file_row m);
      exported_type = all_rows m EXPORTED_TYPE (exported_type_row m);
      manifest_resource = all_rows m MANIFEST_RESOURCE (manifest_resource_row m);
      nested_class = all_rows m NESTED_CLASS (nested_class_row m);
      generic_param = all_rows m GENERIC_PARAM (generic_param_row m);
      method_spec = all_rows m METHOD_SPEC (method_spec_row m);
      generic_param_constraint = all_rows m GENERIC_PARAM_CONSTRAINT (generic_param_constraint_row m);
      user = all_texts (heap m UserStrings) (methods_of bs);
    }

-- the file has this record: it meets the demands, and each part is what its bytes say
pub record HasRecord (bs : List ℕ) (rec : AsmRec) : Type 0 where
  pub meets : first_fault (record_demands bs) ≡ None
  pub is : rec ≡ record_at bs

-- ---- places of rows

abbrev pub place_by : List ℕ → List ℕ → ℕ → ℕ → Option ℕ
place_by bs m t r =
    if nat_lt t 45 && names_row (tables_stream m) t r then Some (tables_base m (metadata_place_of bs) + row_place (tables_stream m) t r) else None

abbrev pub place_unless : Option TablesError → List ℕ → ℕ → Option ℕ
place_unless (Some e) bs token = None
place_unless None bs token = place_by bs (metadata_of bs) (table_of token) (row_of token)

-- the place in the file of the row that a token names, where the file has a record with that row
unfoldable pub place_of_row : List ℕ → ℕ → Option ℕ
place_of_row bs token = place_unless (first_fault (record_demands bs)) bs token
