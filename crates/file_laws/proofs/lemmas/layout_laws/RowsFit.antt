-- The rows of a record that can be laid out fit their columns, name rows that are there, and are in order.
use Rattle.std.proofs.Common.{◌≡◌, ℕ, suc, ◌+◌, Bool, true, [], map, get_or, refl, subst, arith}
use Rattle.std.specs.Prelude.{◌&&◌}
use Rattle.std.proofs.lemmas.Bool.{and_parts, le-leb}
use Rattle.il_base.specs.declared.cli_format.column.CodedIndex.TheVariants.{HasConstant, HasCustomAttribute, HasFieldMarshal, HasDeclSecurity, HasSemantics, MemberForwarded, TypeOrMethodDef}
use Rattle.il_base.specs.cli_format.Columns.{columns_of, sort_key_of, schema}
use Rattle.il_base.specs.cli_format.Tokens.{coded_of}
use Rattle.il_base.specs.cli_format.Metadata.{in_order}
use Rattle.il_base.specs.declared.world_model.record.AsmRec.{AsmRec}
use Rattle.il_base.specs.declared.world_model.types.TypeDefRow.{TypeDefRow}
use Rattle.il_base.specs.declared.world_model.members.MethodDefRow.{MethodDefRow}
use Rattle.il_base.specs.declared.world_model.members.EventMapRow.{EventMapRow}
use Rattle.il_base.specs.declared.world_model.members.PropertyMapRow.{PropertyMapRow}
use Rattle.il_base.specs.declared.world_model.extras.FieldRvaRow.{FieldRvaRow}
use Rattle.il_base.specs.world_model.Records.{rows_in}
use Rattle.rules.specs.file_layout.Runs.{runs_fit, runs_have_spelling}
use Rattle.rules.specs.record_layout.Rows.{module_values, type_ref_values, type_def_values, field_values, method_def_values, param_values, interface_impl_values, member_ref_values, constant_values, custom_attribute_values, field_marshal_values, decl_security_values, class_layout_values, field_layout_values, stand_alone_sig_values, event_map_values, event_values, property_map_values, property_values, method_semantics_values, method_impl_values, module_ref_values, type_spec_values, impl_map_values, field_rva_values, assembly_values, assembly_processor_values, assembly_os_values, assembly_ref_values, assembly_ref_processor_values, assembly_ref_os_values, file_values, exported_type_values, manifest_resource_values, nested_class_values, generic_param_values, method_spec_values, generic_param_constraint_values}
use Rattle.rules.specs.record_layout.Tables.{with_rvas, method_rvas, field_rvas, values_of}
use Rattle.file_laws.proofs.lemmas.layout_laws.Within.{Within}
use Rattle.file_laws.proofs.lemmas.layout_laws.ColumnFits.{RowsFit}
use Rattle.file_laws.proofs.lemmas.layout_laws.RowsJoined.{joined, with_own_rows, no_rows_fit, run_start, run_rises, index_order, index_rises, two_order, AllFit, fit_at}

-- ---- each table

module _ (rec : AsmRec) (h : Within rec) where
  -- ---- the spelling of runs

  abbrev fields_spelled : Bool
  fields_spelled = runs_fit (rows_in rec 0x04) (λ (x : TypeDefRow). x.field_list_first) rec.type_def

  abbrev methods_spelled : Bool
  methods_spelled = runs_fit (rows_in rec 0x06) (λ (x : TypeDefRow). x.method_list_first) rec.type_def

  abbrev params_spelled : Bool
  params_spelled = runs_fit (rows_in rec 0x08) (λ (x : MethodDefRow). x.param_list_first) rec.method_def

  abbrev events_spelled : Bool
  events_spelled = runs_fit (rows_in rec 0x14) (λ (x : EventMapRow). x.event_list_first) rec.event_map

  abbrev properties_spelled : Bool
  properties_spelled = runs_fit (rows_in rec 0x17) (λ (x : PropertyMapRow). x.property_list_first) rec.property_map

  all_spelled : (fields_spelled && methods_spelled && params_spelled && events_spelled && properties_spelled) ≡ true
  unfolding runs_have_spelling
  all_spelled = h.runs

  before_properties : ((fields_spelled && methods_spelled && params_spelled && events_spelled) ≡ true) × (properties_spelled ≡ true)
  before_properties = and_parts (fields_spelled && methods_spelled && params_spelled && events_spelled) properties_spelled all_spelled

  before_events : ((fields_spelled && methods_spelled && params_spelled) ≡ true) × (events_spelled ≡ true)
  before_events = and_parts (fields_spelled && methods_spelled && params_spelled) events_spelled before_properties.0

  before_params : ((fields_spelled && methods_spelled) ≡ true) × (params_spelled ≡ true)
  before_params = and_parts (fields_spelled && methods_spelled) params_spelled before_events.0

  both_of_types : (fields_spelled ≡ true) × (methods_spelled ≡ true)
  both_of_types = and_parts fields_spelled methods_spelled before_params.0

  fields_have : fields_spelled ≡ true
  fields_have = both_of_types.0

  methods_have : methods_spelled ≡ true
  methods_have = both_of_types.1

  params_have : params_spelled ≡ true
  params_have = before_params.1

  events_have : events_spelled ≡ true
  events_have = before_events.1

  properties_have : properties_spelled ≡ true
  properties_have = before_properties.1

  -- ---- the tables

  modules_fit : RowsFit rec 0x00 (map module_values rec.«module»)
  unfolding columns_of schema sort_key_of in_order values_of
  modules_fit =
      joined rec 0x00 module_values rec.«module» (h.can.tables 0x00)
      (λ k row e. (tt, (tt, (tt, (tt, (tt, tt))))))
      (λ k row next e f. (refl, (refl, (refl, (refl, (refl, tt))))))
      (λ k row next e f. refl)

  type_refs_fit : RowsFit rec 0x01 (map type_ref_values rec.type_ref)
  unfolding columns_of schema sort_key_of in_order values_of
  type_refs_fit =
      joined rec 0x01 type_ref_values rec.type_ref (h.can.tables 0x01)
      (λ k row e. (h.can.is_record.tokens.type_refs k row e, (tt, (tt, tt))))
      (λ k row next e f. (refl, (refl, (refl, tt))))
      (λ k row next e f. refl)

  type_defs_fit : RowsFit rec 0x02 (map type_def_values rec.type_def)
  unfolding columns_of schema sort_key_of in_order values_of
  type_defs_fit =
      joined rec 0x02 type_def_values rec.type_def (h.can.tables 0x02)
      (λ k row e. (tt, (tt, (tt, (h.can.is_record.tokens.type_defs k row e, (run_start (λ (x : TypeDefRow). x.field_list_first) (λ (x : TypeDefRow). x.field_list_end) rec.type_def h.can.is_record.runs.fields fields_have k row e, (run_start (λ (x : TypeDefRow). x.method_list_first) (λ (x : TypeDefRow). x.method_list_end) rec.type_def h.can.is_record.runs.methods methods_have k row e, tt)))))))
      (λ k row next e f. (refl, (refl, (refl, (refl, (run_rises (λ (x : TypeDefRow). x.field_list_first) (λ (x : TypeDefRow). x.field_list_end) rec.type_def h.can.is_record.runs.fields k row next e f, (run_rises (λ (x : TypeDefRow). x.method_list_first) (λ (x : TypeDefRow). x.method_list_end) rec.type_def h.can.is_record.runs.methods k row next e f, tt)))))))
      (λ k row next e f. refl)

  fields_fit : RowsFit rec 0x04 (map field_values rec.field)
  unfolding columns_of schema sort_key_of in_order values_of
  fields_fit =
      joined rec 0x04 field_values rec.field (h.can.tables 0x04)
      (λ k row e. (tt, (tt, (tt, tt))))
      (λ k row next e f. (refl, (refl, (refl, tt))))
      (λ k row next e f. refl)

  method_defs_fit : RowsFit rec 0x06 (with_rvas method_def_values (method_rvas rec) rec.method_def)
  unfolding columns_of schema sort_key_of in_order values_of
  method_defs_fit =
      with_own_rows rec 0x06 method_def_values (λ (x : MethodDefRow). x.rva) rec.method_def (method_rvas rec) h.can.body_rvas (h.can.tables 0x06)
      (λ k row e. (tt, (tt, (tt, (tt, (tt, (run_start (λ (x : MethodDefRow). x.param_list_first) (λ (x : MethodDefRow). x.param_list_end) rec.method_def h.can.is_record.runs.params params_have k row e, tt)))))))
      (λ k row next e f. (refl, (refl, (refl, (refl, (refl, (run_rises (λ (x : MethodDefRow). x.param_list_first) (λ (x : MethodDefRow). x.param_list_end) rec.method_def h.can.is_record.runs.params k row next e f, tt)))))))
      (λ k row next e f. refl)

  params_fit : RowsFit rec 0x08 (map param_values rec.param)
  unfolding columns_of schema sort_key_of in_order values_of
  params_fit =
      joined rec 0x08 param_values rec.param (h.can.tables 0x08)
      (λ k row e. (tt, (tt, (tt, tt))))
      (λ k row next e f. (refl, (refl, (refl, tt))))
      (λ k row next e f. refl)

  interface_impls_fit : RowsFit rec 0x09 (map interface_impl_values rec.interface_impl)
  unfolding columns_of schema sort_key_of in_order values_of
  interface_impls_fit =
      joined rec 0x09 interface_impl_values rec.interface_impl (h.can.tables 0x09)
      (λ k row e. ((h.can.is_record.tokens.interface_impls k row e).0, ((h.can.is_record.tokens.interface_impls k row e).1, tt)))
      (λ k row next e f. (refl, (refl, tt)))
      (λ k row next e f. index_order rec 0x02 row.class next.class (h.can.is_record.tokens.interface_impls k row e).0 (h.can.is_record.tokens.interface_impls (suc k) next f).0 (h.can.is_record.sorted.interface_impls k row next e f))

  member_refs_fit : RowsFit rec 0x0a (map member_ref_values rec.member_ref)
  unfolding columns_of schema sort_key_of in_order values_of
  member_refs_fit =
      joined rec 0x0a member_ref_values rec.member_ref (h.can.tables 0x0a)
      (λ k row e. (h.can.is_record.tokens.member_refs k row e, (tt, (tt, tt))))
      (λ k row next e f. (refl, (refl, (refl, tt))))
      (λ k row next e f. refl)

  constants_fit : RowsFit rec 0x0b (map constant_values rec.constant)
  unfolding columns_of schema sort_key_of in_order values_of
  constants_fit =
      joined rec 0x0b constant_values rec.constant (h.can.tables 0x0b)
      (λ k row e. (tt, (tt, (h.can.is_record.tokens.constants k row e, (tt, tt)))))
      (λ k row next e f. (refl, (refl, (refl, (refl, tt)))))
      (λ k row next e f. le-leb (coded_of HasConstant row.parent) (coded_of HasConstant next.parent) (h.can.is_record.sorted.constants k row next e f))

  custom_attributes_fit : RowsFit rec 0x0c (map custom_attribute_values rec.custom_attribute)
  unfolding columns_of schema sort_key_of in_order values_of
  custom_attributes_fit =
      joined rec 0x0c custom_attribute_values rec.custom_attribute (h.can.tables 0x0c)
      (λ k row e. ((h.can.is_record.tokens.custom_attributes k row e).0, ((h.can.is_record.tokens.custom_attributes k row e).1, (tt, tt))))
      (λ k row next e f. (refl, (refl, (refl, tt))))
      (λ k row next e f. le-leb (coded_of HasCustomAttribute row.parent) (coded_of HasCustomAttribute next.parent) (h.can.is_record.sorted.custom_attributes k row next e f))

  field_marshals_fit : RowsFit rec 0x0d (map field_marshal_values rec.field_marshal)
  unfolding columns_of schema sort_key_of in_order values_of
  field_marshals_fit =
      joined rec 0x0d field_marshal_values rec.field_marshal (h.can.tables 0x0d)
      (λ k row e. (h.can.is_record.tokens.field_marshals k row e, (tt, tt)))
      (λ k row next e f. (refl, (refl, tt)))
      (λ k row next e f. le-leb (coded_of HasFieldMarshal row.parent) (coded_of HasFieldMarshal next.parent) (h.can.is_record.sorted.field_marshals k row next e f))

  decl_securitys_fit : RowsFit rec 0x0e (map decl_security_values rec.decl_security)
  unfolding columns_of schema sort_key_of in_order values_of
  decl_securitys_fit =
      joined rec 0x0e decl_security_values rec.decl_security (h.can.tables 0x0e)
      (λ k row e. (tt, (h.can.is_record.tokens.decl_securities k row e, (tt, tt))))
      (λ k row next e f. (refl, (refl, (refl, tt))))
      (λ k row next e f. le-leb (coded_of HasDeclSecurity row.parent) (coded_of HasDeclSecurity next.parent) (h.can.is_record.sorted.decl_securities k row next e f))

  class_layouts_fit : RowsFit rec 0x0f (map class_layout_values rec.class_layout)
  unfolding columns_of schema sort_key_of in_order values_of
  class_layouts_fit =
      joined rec 0x0f class_layout_values rec.class_layout (h.can.tables 0x0f)
      (λ k row e. (tt, (tt, (h.can.is_record.tokens.class_layouts k row e, tt))))
      (λ k row next e f. (refl, (refl, (refl, tt))))
      (λ k row next e f. index_order rec 0x02 row.parent next.parent (h.can.is_record.tokens.class_layouts k row e) (h.can.is_record.tokens.class_layouts (suc k) next f) (h.can.is_record.sorted.class_layouts k row next e f))

  field_layouts_fit : RowsFit rec 0x10 (map field_layout_values rec.field_layout)
  unfolding columns_of schema sort_key_of in_order values_of
  field_layouts_fit =
      joined rec 0x10 field_layout_values rec.field_layout (h.can.tables 0x10)
      (λ k row e. (tt, (h.can.is_record.tokens.field_layouts k row e, tt)))
      (λ k row next e f. (refl, (refl, tt)))
      (λ k row next e f. index_order rec 0x04 row.field next.field (h.can.is_record.tokens.field_layouts k row e) (h.can.is_record.tokens.field_layouts (suc k) next f) (h.can.is_record.sorted.field_layouts k row next e f))

  stand_alone_sigs_fit : RowsFit rec 0x11 (map stand_alone_sig_values rec.stand_alone_sig)
  unfolding columns_of schema sort_key_of in_order values_of
  stand_alone_sigs_fit =
      joined rec 0x11 stand_alone_sig_values rec.stand_alone_sig (h.can.tables 0x11)
      (λ k row e. (tt, tt))
      (λ k row next e f. (refl, tt))
      (λ k row next e f. refl)

  event_maps_fit : RowsFit rec 0x12 (map event_map_values rec.event_map)
  unfolding columns_of schema sort_key_of in_order values_of
  event_maps_fit =
      joined rec 0x12 event_map_values rec.event_map (h.can.tables 0x12)
      (λ k row e. (h.can.is_record.tokens.event_maps k row e, (run_start (λ (x : EventMapRow). x.event_list_first) (λ (x : EventMapRow). x.event_list_end) rec.event_map h.can.is_record.runs.events events_have k row e, tt)))
      (λ k row next e f. (refl, (run_rises (λ (x : EventMapRow). x.event_list_first) (λ (x : EventMapRow). x.event_list_end) rec.event_map h.can.is_record.runs.events k row next e f, tt)))
      (λ k row next e f. refl)

  events_fit : RowsFit rec 0x14 (map event_values rec.event)
  unfolding columns_of schema sort_key_of in_order values_of
  events_fit =
      joined rec 0x14 event_values rec.event (h.can.tables 0x14)
      (λ k row e. (tt, (tt, (h.can.is_record.tokens.events k row e, tt))))
      (λ k row next e f. (refl, (refl, (refl, tt))))
      (λ k row next e f. refl)

  property_maps_fit : RowsFit rec 0x15 (map property_map_values rec.property_map)
  unfolding columns_of schema sort_key_of in_order values_of
  property_maps_fit =
      joined rec 0x15 property_map_values rec.property_map (h.can.tables 0x15)
      (λ k row e. (h.can.is_record.tokens.property_maps k row e, (run_start (λ (x : PropertyMapRow). x.property_list_first) (λ (x : PropertyMapRow). x.property_list_end) rec.property_map h.can.is_record.runs.properties properties_have k row e, tt)))
      (λ k row next e f. (refl, (run_rises (λ (x : PropertyMapRow). x.property_list_first) (λ (x : PropertyMapRow). x.property_list_end) rec.property_map h.can.is_record.runs.properties k row next e f, tt)))
      (λ k row next e f. refl)

  propertys_fit : RowsFit rec 0x17 (map property_values rec.property)
  unfolding columns_of schema sort_key_of in_order values_of
  propertys_fit =
      joined rec 0x17 property_values rec.property (h.can.tables 0x17)
      (λ k row e. (tt, (tt, (tt, tt))))
      (λ k row next e f. (refl, (refl, (refl, tt))))
      (λ k row next e f. refl)

  method_semanticss_fit : RowsFit rec 0x18 (map method_semantics_values rec.method_semantics)
  unfolding columns_of schema sort_key_of in_order values_of
  method_semanticss_fit =
      joined rec 0x18 method_semantics_values rec.method_semantics (h.can.tables 0x18)
      (λ k row e. (tt, ((h.can.is_record.tokens.method_semantics k row e).0, ((h.can.is_record.tokens.method_semantics k row e).1, tt))))
      (λ k row next e f. (refl, (refl, (refl, tt))))
      (λ k row next e f. le-leb (coded_of HasSemantics row.association) (coded_of HasSemantics next.association) (h.can.is_record.sorted.method_semantics k row next e f))

  method_impls_fit : RowsFit rec 0x19 (map method_impl_values rec.method_impl)
  unfolding columns_of schema sort_key_of in_order values_of
  method_impls_fit =
      joined rec 0x19 method_impl_values rec.method_impl (h.can.tables 0x19)
      (λ k row e. ((h.can.is_record.tokens.method_impls k row e).0, ((h.can.is_record.tokens.method_impls k row e).1, ((h.can.is_record.tokens.method_impls k row e).2, tt))))
      (λ k row next e f. (refl, (refl, (refl, tt))))
      (λ k row next e f. index_order rec 0x02 row.class next.class (h.can.is_record.tokens.method_impls k row e).0 (h.can.is_record.tokens.method_impls (suc k) next f).0 (h.can.is_record.sorted.method_impls k row next e f))

  module_refs_fit : RowsFit rec 0x1a (map module_ref_values rec.module_ref)
  unfolding columns_of schema sort_key_of in_order values_of
  module_refs_fit =
      joined rec 0x1a module_ref_values rec.module_ref (h.can.tables 0x1a)
      (λ k row e. (tt, tt))
      (λ k row next e f. (refl, tt))
      (λ k row next e f. refl)

  type_specs_fit : RowsFit rec 0x1b (map type_spec_values rec.type_spec)
  unfolding columns_of schema sort_key_of in_order values_of
  type_specs_fit =
      joined rec 0x1b type_spec_values rec.type_spec (h.can.tables 0x1b)
      (λ k row e. (tt, tt))
      (λ k row next e f. (refl, tt))
      (λ k row next e f. refl)

  impl_maps_fit : RowsFit rec 0x1c (map impl_map_values rec.impl_map)
  unfolding columns_of schema sort_key_of in_order values_of
  impl_maps_fit =
      joined rec 0x1c impl_map_values rec.impl_map (h.can.tables 0x1c)
      (λ k row e. (tt, ((h.can.is_record.tokens.impl_maps k row e).0, (tt, ((h.can.is_record.tokens.impl_maps k row e).1, tt)))))
      (λ k row next e f. (refl, (refl, (refl, (refl, tt)))))
      (λ k row next e f. le-leb (coded_of MemberForwarded row.member_forwarded) (coded_of MemberForwarded next.member_forwarded) (h.can.is_record.sorted.impl_maps k row next e f))

  field_rvas_fit : RowsFit rec 0x1d (with_rvas field_rva_values (field_rvas rec) rec.field_rva)
  unfolding columns_of schema sort_key_of in_order values_of
  field_rvas_fit =
      with_own_rows rec 0x1d field_rva_values (λ (x : FieldRvaRow). x.rva) rec.field_rva (field_rvas rec) h.can.data_rvas (h.can.tables 0x1d)
      (λ k row e. (tt, (h.can.is_record.tokens.field_rvas k row e, tt)))
      (λ k row next e f. (refl, (refl, tt)))
      (λ k row next e f. index_order rec 0x04 row.field next.field (h.can.is_record.tokens.field_rvas k row e) (h.can.is_record.tokens.field_rvas (suc k) next f) (h.can.is_record.sorted.field_rvas k row next e f))

  assemblys_fit : RowsFit rec 0x20 (map assembly_values rec.assembly)
  unfolding columns_of schema sort_key_of in_order values_of
  assemblys_fit =
      joined rec 0x20 assembly_values rec.assembly (h.can.tables 0x20)
      (λ k row e. (tt, (tt, (tt, (tt, (tt, (tt, (tt, (tt, (tt, tt))))))))))
      (λ k row next e f. (refl, (refl, (refl, (refl, (refl, (refl, (refl, (refl, (refl, tt))))))))))
      (λ k row next e f. refl)

  assembly_processors_fit : RowsFit rec 0x21 (map assembly_processor_values rec.assembly_processor)
  unfolding columns_of schema sort_key_of in_order values_of
  assembly_processors_fit =
      joined rec 0x21 assembly_processor_values rec.assembly_processor (h.can.tables 0x21)
      (λ k row e. (tt, tt))
      (λ k row next e f. (refl, tt))
      (λ k row next e f. refl)

  assembly_oss_fit : RowsFit rec 0x22 (map assembly_os_values rec.assembly_os)
  unfolding columns_of schema sort_key_of in_order values_of
  assembly_oss_fit =
      joined rec 0x22 assembly_os_values rec.assembly_os (h.can.tables 0x22)
      (λ k row e. (tt, (tt, (tt, tt))))
      (λ k row next e f. (refl, (refl, (refl, tt))))
      (λ k row next e f. refl)

  assembly_refs_fit : RowsFit rec 0x23 (map assembly_ref_values rec.assembly_ref)
  unfolding columns_of schema sort_key_of in_order values_of
  assembly_refs_fit =
      joined rec 0x23 assembly_ref_values rec.assembly_ref (h.can.tables 0x23)
      (λ k row e. (tt, (tt, (tt, (tt, (tt, (tt, (tt, (tt, (tt, tt))))))))))
      (λ k row next e f. (refl, (refl, (refl, (refl, (refl, (refl, (refl, (refl, (refl, tt))))))))))
      (λ k row next e f. refl)

  assembly_ref_processors_fit : RowsFit rec 0x24 (map assembly_ref_processor_values rec.assembly_ref_processor)
  unfolding columns_of schema sort_key_of in_order values_of
  assembly_ref_processors_fit =
      joined rec 0x24 assembly_ref_processor_values rec.assembly_ref_processor (h.can.tables 0x24)
      (λ k row e. (tt, (h.can.is_record.tokens.assembly_ref_processors k row e, tt)))
      (λ k row next e f. (refl, (refl, tt)))
      (λ k row next e f. refl)

  assembly_ref_oss_fit : RowsFit rec 0x25 (map assembly_ref_os_values rec.assembly_ref_os)
  unfolding columns_of schema sort_key_of in_order values_of
  assembly_ref_oss_fit =
      joined rec 0x25 assembly_ref_os_values rec.assembly_ref_os (h.can.tables 0x25)
      (λ k row e. (tt, (tt, (tt, (h.can.is_record.tokens.assembly_ref_os k row e, tt)))))
      (λ k row next e f. (refl, (refl, (refl, (refl, tt)))))
      (λ k row next e f. refl)

  files_fit : RowsFit rec 0x26 (map file_values rec.file)
  unfolding columns_of schema sort_key_of in_order values_of
  files_fit =
      joined rec 0x26 file_values rec.file (h.can.tables 0x26)
      (λ k row e. (tt, (tt, (tt, tt))))
      (λ k row next e f. (refl, (refl, (refl, tt))))
      (λ k row next e f. refl)

  exported_types_fit : RowsFit rec 0x27 (map exported_type_values rec.exported_type)
  unfolding columns_of schema sort_key_of in_order values_of
  exported_types_fit =
      joined rec 0x27 exported_type_values rec.exported_type (h.can.tables 0x27)
      (λ k row e. (tt, (tt, (tt, (tt, (h.can.is_record.tokens.exported_types k row e, tt))))))
      (λ k row next e f. (refl, (refl, (refl, (refl, (refl, tt))))))
      (λ k row next e f. refl)

  manifest_resources_fit : RowsFit rec 0x28 (map manifest_resource_values rec.manifest_resource)
  unfolding columns_of schema sort_key_of in_order values_of
  manifest_resources_fit =
      joined rec 0x28 manifest_resource_values rec.manifest_resource (h.can.tables 0x28)
      (λ k row e. (tt, (tt, (tt, (h.can.is_record.tokens.manifest_resources k row e, tt)))))
      (λ k row next e f. (refl, (refl, (refl, (refl, tt)))))
      (λ k row next e f. refl)

  nested_classs_fit : RowsFit rec 0x29 (map nested_class_values rec.nested_class)
  unfolding columns_of schema sort_key_of in_order values_of
  nested_classs_fit =
      joined rec 0x29 nested_class_values rec.nested_class (h.can.tables 0x29)
      (λ k row e. ((h.can.is_record.tokens.nested_classes k row e).0, ((h.can.is_record.tokens.nested_classes k row e).1, tt)))
      (λ k row next e f. (refl, (refl, tt)))
      (λ k row next e f. index_rises rec 0x02 row.nested_class next.nested_class (h.can.is_record.tokens.nested_classes k row e).0 (h.can.is_record.tokens.nested_classes (suc k) next f).0 (h.can.is_record.sorted.nested_classes k row next e f))

  generic_params_fit : RowsFit rec 0x2a (map generic_param_values rec.generic_param)
  unfolding columns_of schema sort_key_of in_order values_of
  generic_params_fit =
      joined rec 0x2a generic_param_values rec.generic_param (h.can.tables 0x2a)
      (λ k row e. (tt, (tt, (h.can.is_record.tokens.generic_params k row e, (tt, tt)))))
      (λ k row next e f. (refl, (refl, (refl, (refl, tt)))))
      (λ k row next e f. two_order (coded_of TypeOrMethodDef row.owner) (coded_of TypeOrMethodDef next.owner) row.number next.number (h.can.is_record.sorted.generic_params k row next e f))

  method_specs_fit : RowsFit rec 0x2b (map method_spec_values rec.method_spec)
  unfolding columns_of schema sort_key_of in_order values_of
  method_specs_fit =
      joined rec 0x2b method_spec_values rec.method_spec (h.can.tables 0x2b)
      (λ k row e. (h.can.is_record.tokens.method_specs k row e, (tt, tt)))
      (λ k row next e f. (refl, (refl, tt)))
      (λ k row next e f. refl)

  generic_param_constraints_fit : RowsFit rec 0x2c (map generic_param_constraint_values rec.generic_param_constraint)
  unfolding columns_of schema sort_key_of in_order values_of
  generic_param_constraints_fit =
      joined rec 0x2c generic_param_constraint_values rec.generic_param_constraint (h.can.tables 0x2c)
      (λ k row e. ((h.can.is_record.tokens.generic_param_constraints k row e).0, ((h.can.is_record.tokens.generic_param_constraints k row e).1, tt)))
      (λ k row next e f. (refl, (refl, tt)))
      (λ k row next e f. index_order rec 0x2a row.owner next.owner (h.can.is_record.tokens.generic_param_constraints k row e).0 (h.can.is_record.tokens.generic_param_constraints (suc k) next f).0 (h.can.is_record.sorted.generic_param_constraints k row next e f))

  -- ---- all of them

  all_fit : AllFit rec 0 (values_of rec)
  unfolding values_of
  all_fit =
      (modules_fit, (type_refs_fit, (type_defs_fit, (no_rows_fit rec 0x03, (fields_fit, (no_rows_fit rec 0x05, (method_defs_fit, (no_rows_fit rec 0x07, (params_fit, (interface_impls_fit, (member_refs_fit, (constants_fit, (custom_attributes_fit, (field_marshals_fit, (decl_securitys_fit, (class_layouts_fit, (field_layouts_fit, (stand_alone_sigs_fit, (event_maps_fit, (no_rows_fit rec 0x13, (events_fit, (property_maps_fit, (no_rows_fit rec 0x16, (propertys_fit, (method_semanticss_fit, (method_impls_fit, (module_refs_fit, (type_specs_fit, (impl_maps_fit, (field_rvas_fit, (no_rows_fit rec 0x1e, (no_rows_fit rec 0x1f, (assemblys_fit, (assembly_processors_fit, (assembly_oss_fit, (assembly_refs_fit, (assembly_ref_processors_fit, (assembly_ref_oss_fit, (files_fit, (exported_types_fit, (manifest_resources_fit, (nested_classs_fit, (generic_params_fit, (method_specs_fit, (generic_param_constraints_fit, tt)))))))))))))))))))))))))))))))))))))))))))))

  pub rows_fit : (t : ℕ) → RowsFit rec t (get_or (values_of rec) t [])
  rows_fit t =
      let same : 0 + t ≡ t = omega arith in
      subst (λ (n : ℕ). RowsFit rec n (get_or (values_of rec) t [])) same (fit_at rec 0 (values_of rec) t all_fit)
