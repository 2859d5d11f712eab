-- Each table of a record that is laid out is read again.
use Rattle.std.proofs.Common.{◌≡◌, ℕ, suc, List, [], map, get_or, Some, refl, ap, ap₂, ◌∙◌}
use Rattle.std.specs.Prelude.{slice_get}
use Rattle.il_base.specs.blob_grammar.Reading.{type_of_blob, method_of_blob, property_of_blob, field_of_blob, locals_of_blob, instance_of_blob}
use Rattle.il_base.specs.declared.world_model.record.AsmRec.{AsmRec}
use Rattle.rules.specs.record_format.Cells.{all_rows}
use Rattle.rules.specs.record_format.Parts.{known_of, member_of_blob, body_by, bad_offset, bytes_by, size_by}
use Rattle.rules.specs.declared.record_layout.value.Value.{Value}
use Rattle.rules.specs.record_layout.Tables.{values_of, cells_of, method_rvas, field_rvas}
use Rattle.il_base.specs.declared.world_model.types.ClassLayoutRow.{ClassLayoutRow}
use Rattle.file_laws.proofs.lemmas.layout_laws.Within.{Within}
use Rattle.file_laws.proofs.lemmas.layout_laws.Lower.{Lower}
use Rattle.file_laws.proofs.lemmas.layout_laws.ReadBack.{Reads}
use Rattle.file_laws.proofs.lemmas.layout_laws.ValuesRead.{RowReads, table_read, run_read}
use Rattle.file_laws.proofs.lemmas.layout_laws.SignaturesRead.{field_sig_again, property_sig_again, type_sig_again, instance_sig_again, locals_sig_again, method_sig_again, member_sig_again}
use Rattle.file_laws.proofs.lemmas.layout_laws.BodiesRead.{BodyRead}
use Rattle.file_laws.proofs.lemmas.layout_laws.RowsJoined.{with_these}
use Rattle.rules.specs.record_format.Types.{module_row, type_ref_row, type_def_row, interface_impl_row, class_layout_row, module_ref_row, type_spec_row, assembly_row, assembly_processor_row, assembly_os_row, assembly_ref_row, assembly_ref_processor_row, assembly_ref_os_row, exported_type_row, nested_class_row, generic_param_row, generic_param_constraint_row}
use Rattle.rules.specs.record_layout.Rows.{module_values, type_ref_values, type_def_values, field_values, method_def_values, param_values, interface_impl_values, member_ref_values, constant_values, custom_attribute_values, field_marshal_values, decl_security_values, class_layout_values, field_layout_values, stand_alone_sig_values, event_map_values, event_values, property_map_values, property_values, method_semantics_values, method_impl_values, module_ref_values, type_spec_values, impl_map_values, field_rva_values, assembly_values, assembly_processor_values, assembly_os_values, assembly_ref_values, assembly_ref_processor_values, assembly_ref_os_values, file_values, exported_type_values, manifest_resource_values, nested_class_values, generic_param_values, method_spec_values, generic_param_constraint_values}
use Rattle.file_laws.proofs.lemmas.layout_laws.RowsAgain.{module_again, type_ref_again, param_again, interface_impl_again, constant_again, custom_attribute_again, field_marshal_again, decl_security_again, class_layout_again, field_layout_again, event_again, method_semantics_again, method_impl_again, module_ref_again, impl_map_again, assembly_again, assembly_processor_again, assembly_os_again, assembly_ref_again, assembly_ref_processor_again, assembly_ref_os_again, file_again, exported_type_again, manifest_resource_again, nested_class_again, generic_param_again, generic_param_constraint_again}
use Rattle.il_base.specs.declared.world_model.types.TypeDefRow.{TypeDefRow}
use Rattle.il_base.specs.declared.world_model.members.FieldRow.{FieldRow}
use Rattle.rules.specs.record_format.Members.{field_row, method_def_row, param_row, member_ref_row, stand_alone_sig_row, event_map_row, event_row, property_map_row, property_row, method_semantics_row, method_impl_row, method_spec_row}
use Rattle.il_base.specs.declared.world_model.members.MethodDefRow.{MethodDefRow}
use Rattle.il_base.specs.declared.world_model.members.MemberRefRow.{MemberRefRow}
use Rattle.rules.specs.record_format.Others.{constant_row, custom_attribute_row, field_marshal_row, decl_security_row, field_layout_row, impl_map_row, field_rva_row, file_row, manifest_resource_row}
use Rattle.il_base.specs.declared.world_model.members.StandAloneSigRow.{StandAloneSigRow}
use Rattle.il_base.specs.declared.world_model.members.EventMapRow.{EventMapRow}
use Rattle.il_base.specs.declared.world_model.members.PropertyMapRow.{PropertyMapRow}
use Rattle.il_base.specs.declared.world_model.members.PropertyRow.{PropertyRow}
use Rattle.il_base.specs.declared.world_model.types.TypeSpecRow.{TypeSpecRow}
use Rattle.il_base.specs.declared.world_model.extras.FieldRvaRow.{FieldRvaRow}
use Rattle.il_base.specs.declared.world_model.members.MethodSpecRow.{MethodSpecRow}

-- ---- rows of plain values

module _ (m : List ℕ) (rec : AsmRec) (h : Within rec) (reads : Reads m (cells_of rec)) where
  pub module_read : all_rows m 0x00 (module_row m) ≡ rec.«module»
  unfolding values_of
  module_read = table_read m rec h reads 0x00 (module_row m) module_values rec.«module» refl (λ k row e r. module_again m (suc k) row r)

  pub type_ref_read : all_rows m 0x01 (type_ref_row m) ≡ rec.type_ref
  unfolding values_of
  type_ref_read = table_read m rec h reads 0x01 (type_ref_row m) type_ref_values rec.type_ref refl (λ k row e r. type_ref_again m (suc k) row r)

  pub param_read : all_rows m 0x08 (param_row m) ≡ rec.param
  unfolding values_of
  param_read = table_read m rec h reads 0x08 (param_row m) param_values rec.param refl (λ k row e r. param_again m (suc k) row r)

  pub interface_impl_read : all_rows m 0x09 (interface_impl_row m) ≡ rec.interface_impl
  unfolding values_of
  interface_impl_read = table_read m rec h reads 0x09 (interface_impl_row m) interface_impl_values rec.interface_impl refl (λ k row e r. interface_impl_again m (suc k) row r)

  pub constant_read : all_rows m 0x0b (constant_row m) ≡ rec.constant
  unfolding values_of
  constant_read = table_read m rec h reads 0x0b (constant_row m) constant_values rec.constant refl (λ k row e r. constant_again m (suc k) row r)

  pub custom_attribute_read : all_rows m 0x0c (custom_attribute_row m) ≡ rec.custom_attribute
  unfolding values_of
  custom_attribute_read = table_read m rec h reads 0x0c (custom_attribute_row m) custom_attribute_values rec.custom_attribute refl (λ k row e r. custom_attribute_again m (suc k) row r)

  pub field_marshal_read : all_rows m 0x0d (field_marshal_row m) ≡ rec.field_marshal
  unfolding values_of
  field_marshal_read = table_read m rec h reads 0x0d (field_marshal_row m) field_marshal_values rec.field_marshal refl (λ k row e r. field_marshal_again m (suc k) row r)

  pub decl_security_read : all_rows m 0x0e (decl_security_row m) ≡ rec.decl_security
  unfolding values_of
  decl_security_read = table_read m rec h reads 0x0e (decl_security_row m) decl_security_values rec.decl_security refl (λ k row e r. decl_security_again m (suc k) row r)

  pub class_layout_read : all_rows m 0x0f (class_layout_row m) ≡ rec.class_layout
  unfolding values_of
  class_layout_read = table_read m rec h reads 0x0f (class_layout_row m) class_layout_values rec.class_layout refl (λ k row e r. class_layout_again m (suc k) row r)

  pub field_layout_read : all_rows m 0x10 (field_layout_row m) ≡ rec.field_layout
  unfolding values_of
  field_layout_read = table_read m rec h reads 0x10 (field_layout_row m) field_layout_values rec.field_layout refl (λ k row e r. field_layout_again m (suc k) row r)

  pub event_read : all_rows m 0x14 (event_row m) ≡ rec.event
  unfolding values_of
  event_read = table_read m rec h reads 0x14 (event_row m) event_values rec.event refl (λ k row e r. event_again m (suc k) row r)

  pub method_semantics_read : all_rows m 0x18 (method_semantics_row m) ≡ rec.method_semantics
  unfolding values_of
  method_semantics_read = table_read m rec h reads 0x18 (method_semantics_row m) method_semantics_values rec.method_semantics refl (λ k row e r. method_semantics_again m (suc k) row r)

  pub method_impl_read : all_rows m 0x19 (method_impl_row m) ≡ rec.method_impl
  unfolding values_of
  method_impl_read = table_read m rec h reads 0x19 (method_impl_row m) method_impl_values rec.method_impl refl (λ k row e r. method_impl_again m (suc k) row r)

  pub module_ref_read : all_rows m 0x1a (module_ref_row m) ≡ rec.module_ref
  unfolding values_of
  module_ref_read = table_read m rec h reads 0x1a (module_ref_row m) module_ref_values rec.module_ref refl (λ k row e r. module_ref_again m (suc k) row r)

  pub impl_map_read : all_rows m 0x1c (impl_map_row m) ≡ rec.impl_map
  unfolding values_of
  impl_map_read = table_read m rec h reads 0x1c (impl_map_row m) impl_map_values rec.impl_map refl (λ k row e r. impl_map_again m (suc k) row r)

  pub assembly_read : all_rows m 0x20 (assembly_row m) ≡ rec.assembly
  unfolding values_of
  assembly_read = table_read m rec h reads 0x20 (assembly_row m) assembly_values rec.assembly refl (λ k row e r. assembly_again m (suc k) row r)

  pub assembly_processor_read : all_rows m 0x21 (assembly_processor_row m) ≡ rec.assembly_processor
  unfolding values_of
  assembly_processor_read = table_read m rec h reads 0x21 (assembly_processor_row m) assembly_processor_values rec.assembly_processor refl (λ k row e r. assembly_processor_again m (suc k) row r)

  pub assembly_os_read : all_rows m 0x22 (assembly_os_row m) ≡ rec.assembly_os
  unfolding values_of
  assembly_os_read = table_read m rec h reads 0x22 (assembly_os_row m) assembly_os_values rec.assembly_os refl (λ k row e r. assembly_os_again m (suc k) row r)

  pub assembly_ref_read : all_rows m 0x23 (assembly_ref_row m) ≡ rec.assembly_ref
  unfolding values_of
  assembly_ref_read = table_read m rec h reads 0x23 (assembly_ref_row m) assembly_ref_values rec.assembly_ref refl (λ k row e r. assembly_ref_again m (suc k) row r)

  pub assembly_ref_processor_read : all_rows m 0x24 (assembly_ref_processor_row m) ≡ rec.assembly_ref_processor
  unfolding values_of
  assembly_ref_processor_read = table_read m rec h reads 0x24 (assembly_ref_processor_row m) assembly_ref_processor_values rec.assembly_ref_processor refl (λ k row e r. assembly_ref_processor_again m (suc k) row r)

  pub assembly_ref_os_read : all_rows m 0x25 (assembly_ref_os_row m) ≡ rec.assembly_ref_os
  unfolding values_of
  assembly_ref_os_read = table_read m rec h reads 0x25 (assembly_ref_os_row m) assembly_ref_os_values rec.assembly_ref_os refl (λ k row e r. assembly_ref_os_again m (suc k) row r)

  pub file_read : all_rows m 0x26 (file_row m) ≡ rec.file
  unfolding values_of
  file_read = table_read m rec h reads 0x26 (file_row m) file_values rec.file refl (λ k row e r. file_again m (suc k) row r)

  pub exported_type_read : all_rows m 0x27 (exported_type_row m) ≡ rec.exported_type
  unfolding values_of
  exported_type_read = table_read m rec h reads 0x27 (exported_type_row m) exported_type_values rec.exported_type refl (λ k row e r. exported_type_again m (suc k) row r)

  pub manifest_resource_read : all_rows m 0x28 (manifest_resource_row m) ≡ rec.manifest_resource
  unfolding values_of
  manifest_resource_read = table_read m rec h reads 0x28 (manifest_resource_row m) manifest_resource_values rec.manifest_resource refl (λ k row e r. manifest_resource_again m (suc k) row r)

  pub nested_class_read : all_rows m 0x29 (nested_class_row m) ≡ rec.nested_class
  unfolding values_of
  nested_class_read = table_read m rec h reads 0x29 (nested_class_row m) nested_class_values rec.nested_class refl (λ k row e r. nested_class_again m (suc k) row r)

  pub generic_param_read : all_rows m 0x2a (generic_param_row m) ≡ rec.generic_param
  unfolding values_of
  generic_param_read = table_read m rec h reads 0x2a (generic_param_row m) generic_param_values rec.generic_param refl (λ k row e r. generic_param_again m (suc k) row r)

  pub generic_param_constraint_read : all_rows m 0x2c (generic_param_constraint_row m) ≡ rec.generic_param_constraint
  unfolding values_of
  generic_param_constraint_read = table_read m rec h reads 0x2c (generic_param_constraint_row m) generic_param_constraint_values rec.generic_param_constraint refl (λ k row e r. generic_param_constraint_again m (suc k) row r)

-- ---- rows with runs and signatures

module _ (lower : Lower) (m : List ℕ) (rec : AsmRec) (h : Within rec) (reads : Reads m (cells_of rec)) where
  type_def_again : (k : ℕ) (row : TypeDefRow) → slice_get rec.type_def k ≡ Some row → RowReads m 0x02 (suc k) (type_def_values row) → type_def_row m (suc k) ≡ row
  unfolding type_def_row values_of
  type_def_again k row e r =
      let fields = run_read m rec h reads 0x02 4 0x04 type_def_values (λ x. x.field_list_first) (λ x. x.field_list_end) rec.type_def refl (λ x. refl) h.can.is_record.runs.fields k row e in
      let methods = run_read m rec h reads 0x02 5 0x06 type_def_values (λ x. x.method_list_first) (λ x. x.method_list_end) rec.type_def refl (λ x. refl) h.can.is_record.runs.methods k row e in
      λ i. record {
        flags = r 0 i;
        name = r 1 i;
        namespace = r 2 i;
        extends = r 3 i;
        field_list_first = r 4 i;
        field_list_end = fields i;
        method_list_first = r 5 i;
        method_list_end = methods i;
      }

  pub type_def_read : all_rows m 0x02 (type_def_row m) ≡ rec.type_def
  unfolding values_of
  type_def_read = table_read m rec h reads 0x02 (type_def_row m) type_def_values rec.type_def refl type_def_again

  field_again : (k : ℕ) (row : FieldRow) → slice_get rec.field k ≡ Some row → RowReads m 0x04 (suc k) (field_values row) → field_row m (suc k) ≡ row
  unfolding field_row
  field_again k row e r =
      let signature = ap (λ (b : List ℕ). known_of (field_of_blob b)) (r 2) ∙ field_sig_again lower row.signature (h.can.signatures.fields k row e) in
      λ i. record { flags = r 0 i; name = r 1 i; signature = signature i }

  pub field_read : all_rows m 0x04 (field_row m) ≡ rec.field
  unfolding values_of
  field_read = table_read m rec h reads 0x04 (field_row m) field_values rec.field refl field_again

  member_ref_again : (k : ℕ) (row : MemberRefRow) → slice_get rec.member_ref k ≡ Some row → RowReads m 0x0a (suc k) (member_ref_values row) → member_ref_row m (suc k) ≡ row
  unfolding member_ref_row
  member_ref_again k row e r =
      let signature = ap member_of_blob (r 2) ∙ member_sig_again lower row.signature (h.can.signatures.members k row e) in
      λ i. record { class = r 0 i; name = r 1 i; signature = signature i }

  pub member_ref_read : all_rows m 0x0a (member_ref_row m) ≡ rec.member_ref
  unfolding values_of
  member_ref_read = table_read m rec h reads 0x0a (member_ref_row m) member_ref_values rec.member_ref refl member_ref_again

  stand_alone_sig_again : (k : ℕ) (row : StandAloneSigRow) → slice_get rec.stand_alone_sig k ≡ Some row → RowReads m 0x11 (suc k) (stand_alone_sig_values row) → stand_alone_sig_row m (suc k) ≡ row
  unfolding stand_alone_sig_row
  stand_alone_sig_again k row e r =
      let signature = ap (λ (b : List ℕ). known_of (locals_of_blob b)) (r 0) ∙ locals_sig_again lower row.signature (h.can.signatures.locals k row e) in
      λ i. record { signature = signature i }

  pub stand_alone_sig_read : all_rows m 0x11 (stand_alone_sig_row m) ≡ rec.stand_alone_sig
  unfolding values_of
  stand_alone_sig_read = table_read m rec h reads 0x11 (stand_alone_sig_row m) stand_alone_sig_values rec.stand_alone_sig refl stand_alone_sig_again

  event_map_again : (k : ℕ) (row : EventMapRow) → slice_get rec.event_map k ≡ Some row → RowReads m 0x12 (suc k) (event_map_values row) → event_map_row m (suc k) ≡ row
  unfolding event_map_row values_of
  event_map_again k row e r =
      let events = run_read m rec h reads 0x12 1 0x14 event_map_values (λ x. x.event_list_first) (λ x. x.event_list_end) rec.event_map refl (λ x. refl) h.can.is_record.runs.events k row e in
      λ i. record { parent = r 0 i; event_list_first = r 1 i; event_list_end = events i }

  pub event_map_read : all_rows m 0x12 (event_map_row m) ≡ rec.event_map
  unfolding values_of
  event_map_read = table_read m rec h reads 0x12 (event_map_row m) event_map_values rec.event_map refl event_map_again

  property_map_again : (k : ℕ) (row : PropertyMapRow) → slice_get rec.property_map k ≡ Some row → RowReads m 0x15 (suc k) (property_map_values row) → property_map_row m (suc k) ≡ row
  unfolding property_map_row values_of
  property_map_again k row e r =
      let properties = run_read m rec h reads 0x15 1 0x17 property_map_values (λ x. x.property_list_first) (λ x. x.property_list_end) rec.property_map refl (λ x. refl) h.can.is_record.runs.properties k row e in
      λ i. record { parent = r 0 i; property_list_first = r 1 i; property_list_end = properties i }

  pub property_map_read : all_rows m 0x15 (property_map_row m) ≡ rec.property_map
  unfolding values_of
  property_map_read = table_read m rec h reads 0x15 (property_map_row m) property_map_values rec.property_map refl property_map_again

  property_again : (k : ℕ) (row : PropertyRow) → slice_get rec.property k ≡ Some row → RowReads m 0x17 (suc k) (property_values row) → property_row m (suc k) ≡ row
  unfolding property_row
  property_again k row e r =
      let signature = ap (λ (b : List ℕ). known_of (property_of_blob b)) (r 2) ∙ property_sig_again lower row.signature (h.can.signatures.properties k row e) in
      λ i. record { flags = r 0 i; name = r 1 i; signature = signature i }

  pub property_read : all_rows m 0x17 (property_row m) ≡ rec.property
  unfolding values_of
  property_read = table_read m rec h reads 0x17 (property_row m) property_values rec.property refl property_again

  type_spec_again : (k : ℕ) (row : TypeSpecRow) → slice_get rec.type_spec k ≡ Some row → RowReads m 0x1b (suc k) (type_spec_values row) → type_spec_row m (suc k) ≡ row
  unfolding type_spec_row
  type_spec_again k row e r =
      let signature = ap (λ (b : List ℕ). known_of (type_of_blob b)) (r 0) ∙ type_sig_again lower row.signature (h.can.signatures.types k row e) in
      λ i. record { signature = signature i }

  pub type_spec_read : all_rows m 0x1b (type_spec_row m) ≡ rec.type_spec
  unfolding values_of
  type_spec_read = table_read m rec h reads 0x1b (type_spec_row m) type_spec_values rec.type_spec refl type_spec_again

  method_spec_again : (k : ℕ) (row : MethodSpecRow) → slice_get rec.method_spec k ≡ Some row → RowReads m 0x2b (suc k) (method_spec_values row) → method_spec_row m (suc k) ≡ row
  unfolding method_spec_row
  method_spec_again k row e r =
      let instantiation = ap (λ (b : List ℕ). known_of (instance_of_blob b)) (r 1) ∙ instance_sig_again lower row.instantiation (h.can.signatures.instances k row e) in
      λ i. record { method = r 0 i; instantiation = instantiation i }

  pub method_spec_read : all_rows m 0x2b (method_spec_row m) ≡ rec.method_spec
  unfolding values_of
  method_spec_read = table_read m rec h reads 0x2b (method_spec_row m) method_spec_values rec.method_spec refl method_spec_again

-- ---- rows with addresses

module _ (lower : Lower) (bs : List ℕ) (m : List ℕ) (rec : AsmRec) (h : Within rec) (reads : Reads m (cells_of rec))
    (bodies : (k : ℕ) (row : MethodDefRow) → slice_get rec.method_def k ≡ Some row → BodyRead bs row)
    (bytes_are : (k : ℕ) (row : FieldRvaRow) → slice_get rec.field_rva k ≡ Some row → bytes_by bs row.rva (size_by rec.class_layout rec.field row.field) ≡ row.bytes) where
  abbrev method_values : MethodDefRow → List Value
  method_values row = method_def_values row.rva row

  methods_are : get_or (values_of rec) 0x06 [] ≡ map method_values rec.method_def
  unfolding values_of
  methods_are = with_these method_def_values (λ (x : MethodDefRow). x.rva) rec.method_def (method_rvas rec) h.can.body_rvas

  method_def_again : (k : ℕ) (row : MethodDefRow) → slice_get rec.method_def k ≡ Some row → RowReads m 0x06 (suc k) (method_values row) → method_def_row bs m (suc k) ≡ row
  unfolding method_def_row
  method_def_again k row e r =
      let signature = ap (λ (b : List ℕ). known_of (method_of_blob b)) (r 4) ∙ method_sig_again lower row.signature (h.can.signatures.methods k row e) in
      let params = run_read m rec h reads 0x06 5 0x08 method_values (λ x. x.param_list_first) (λ x. x.param_list_end) rec.method_def methods_are (λ x. refl) h.can.is_record.runs.params k row e in
      let body = ap (body_by bs) (r 0) ∙ (bodies k row e).body in
      let bad = ap (bad_offset bs) (r 0) ∙ (bodies k row e).bad in
      λ i. record {
        rva = r 0 i;
        impl_flags = r 1 i;
        flags = r 2 i;
        name = r 3 i;
        signature = signature i;
        param_list_first = r 5 i;
        param_list_end = params i;
        body = body i;
        bad_at = bad i;
      }

  pub method_def_read : all_rows m 0x06 (method_def_row bs m) ≡ rec.method_def
  method_def_read = table_read m rec h reads 0x06 (method_def_row bs m) method_values rec.method_def methods_are method_def_again

  abbrev data_values : FieldRvaRow → List Value
  data_values row = field_rva_values row.rva row

  data_are : get_or (values_of rec) 0x1d [] ≡ map data_values rec.field_rva
  unfolding values_of
  data_are = with_these field_rva_values (λ (x : FieldRvaRow). x.rva) rec.field_rva (field_rvas rec) h.can.data_rvas

  field_rva_again : (k : ℕ) (row : FieldRvaRow) → slice_get rec.field_rva k ≡ Some row → RowReads m 0x1d (suc k) (data_values row) → field_rva_row bs m rec.class_layout rec.field (suc k) ≡ row
  unfolding field_rva_row
  field_rva_again k row e r =
      let bytes = ap₂ (λ (rva token : ℕ). bytes_by bs rva (size_by rec.class_layout rec.field token)) (r 0) (r 1) ∙ bytes_are k row e in
      λ i. record { rva = r 0 i; field = r 1 i; bytes = bytes i }

  field_rva_read_by : all_rows m 0x1d (field_rva_row bs m rec.class_layout rec.field) ≡ rec.field_rva
  field_rva_read_by = table_read m rec h reads 0x1d (field_rva_row bs m rec.class_layout rec.field) data_values rec.field_rva data_are field_rva_again

  pub field_rva_read : all_rows m 0x1d (field_rva_row bs m (all_rows m 0x0f (class_layout_row m)) (all_rows m 0x04 (field_row m))) ≡ rec.field_rva
  field_rva_read =
      ap₂ (λ (layouts : List ClassLayoutRow) (fields : List FieldRow). all_rows m 0x1d (field_rva_row bs m layouts fields)) (class_layout_read m rec h reads) (field_read lower m rec h reads)
      ∙ field_rva_read_by
