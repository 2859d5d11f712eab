-- The record of a file that is laid out is read again.
use Rattle.std.proofs.Common.{◌≡◌, ℕ, ◌≤◌, ◌^◌, List, length, None, sym, ap, ◌∙◌}
use Rattle.std.specs.Prelude.{slice_get}
use Rattle.std.proofs.Common.{Some}
use Rattle.il_base.specs.declared.cli_format.stream.StreamName.TheVariants.{UserStrings}
use Rattle.il_base.specs.cli_format.Streams.{heap}
use Rattle.il_base.specs.cli_format.Image.{metadata_of, cli_flags_of, subsystem_of, entry_token_of, resources_of}
use Rattle.il_base.specs.declared.world_model.members.MethodDefRow.{MethodDefRow}
use Rattle.il_base.specs.declared.world_model.extras.FieldRvaRow.{FieldRvaRow}
use Rattle.il_base.specs.declared.world_model.record.AsmRec.{AsmRec}
use Rattle.rules.specs.file_layout.Heaps.{users_heap}
use Rattle.rules.specs.record_layout.Tables.{cells_of}
use Rattle.rules.specs.record_layout.Laid.{users_of}
use Rattle.rules.specs.record_format.Cells.{all_rows}
use Rattle.rules.specs.record_format.Others.{manifest_resource_row}
use Rattle.rules.specs.record_format.Parts.{bytes_by, size_by}
use Rattle.rules.specs.record_format.Texts.{all_texts, descriptor_in}
use Rattle.rules.specs.record_format.Record.{methods_of, record_at}
use Rattle.file_laws.proofs.lemmas.layout_laws.Within.{Within}
use Rattle.file_laws.proofs.lemmas.layout_laws.Lower.{Lower}
use Rattle.file_laws.proofs.lemmas.layout_laws.ReadBack.{Reads}
use Rattle.file_laws.proofs.lemmas.layout_laws.BodiesRead.{BodyRead}
use Rattle.file_laws.proofs.lemmas.layout_laws.TextsRead.{texts_read}
use Rattle.file_laws.proofs.lemmas.layout_laws.TablesRead.{module_read, type_ref_read, type_def_read, field_read, method_def_read, param_read, interface_impl_read, member_ref_read, constant_read, custom_attribute_read, field_marshal_read, decl_security_read, class_layout_read, field_layout_read, stand_alone_sig_read, event_map_read, event_read, property_map_read, property_read, method_semantics_read, method_impl_read, module_ref_read, type_spec_read, impl_map_read, field_rva_read, assembly_read, assembly_processor_read, assembly_os_read, assembly_ref_read, assembly_ref_processor_read, assembly_ref_os_read, file_read, exported_type_read, manifest_resource_read, nested_class_read, generic_param_read, method_spec_read, generic_param_constraint_read}

-- what a file gives of the parts of a record
pub record FileReads (bs : List ℕ) (rec : AsmRec) : Type 0 where
  pub bits : cli_flags_of bs ≡ rec.bits
  pub subsystem : subsystem_of bs ≡ rec.subsystem
  pub entry : entry_token_of bs ≡ rec.entry
  pub resources : resources_of bs ≡ None
  pub tables : Reads (metadata_of bs) (cells_of rec)
  pub users : heap (metadata_of bs) UserStrings ≡ users_heap (users_of rec)
  pub bodies : (k : ℕ) (row : MethodDefRow) → slice_get rec.method_def k ≡ Some row → BodyRead bs row
  pub field_data : (k : ℕ) (row : FieldRvaRow) → slice_get rec.field_rva k ≡ Some row → bytes_by bs row.rva (size_by rec.class_layout rec.field row.field) ≡ row.bytes

module _ (lower : Lower) (bs : List ℕ) (rec : AsmRec) (h : Within rec) (reads : FileReads bs rec) (small : length (users_heap (users_of rec)) ≤ 2 ^ 24) where
  abbrev m : List ℕ
  m = metadata_of bs

  methods_same : methods_of bs ≡ rec.method_def
  methods_same = method_def_read lower bs m rec h reads.tables reads.bodies reads.field_data

  texts_same : all_texts (heap m UserStrings) (methods_of bs) ≡ rec.user
  texts_same =
      ap (λ (methods : List MethodDefRow). all_texts (heap m UserStrings) methods) methods_same
      ∙ ap (λ (user : List ℕ). all_texts user rec.method_def) reads.users ∙ texts_read rec h (lower.users (users_of rec)) small

  pub record_read : record_at bs ≡ rec
  unfolding record_at
  record_read =
      let module_same = module_read m rec h reads.tables in
      let type_ref_same = type_ref_read m rec h reads.tables in
      let type_def_same = type_def_read lower m rec h reads.tables in
      let field_same = field_read lower m rec h reads.tables in
      let method_def_same = methods_same in
      let param_same = param_read m rec h reads.tables in
      let interface_impl_same = interface_impl_read m rec h reads.tables in
      let member_ref_same = member_ref_read lower m rec h reads.tables in
      let constant_same = constant_read m rec h reads.tables in
      let custom_attribute_same = custom_attribute_read m rec h reads.tables in
      let field_marshal_same = field_marshal_read m rec h reads.tables in
      let decl_security_same = decl_security_read m rec h reads.tables in
      let class_layout_same = class_layout_read m rec h reads.tables in
      let field_layout_same = field_layout_read m rec h reads.tables in
      let stand_alone_sig_same = stand_alone_sig_read lower m rec h reads.tables in
      let event_map_same = event_map_read lower m rec h reads.tables in
      let event_same = event_read m rec h reads.tables in
      let property_map_same = property_map_read lower m rec h reads.tables in
      let property_same = property_read lower m rec h reads.tables in
      let method_semantics_same = method_semantics_read m rec h reads.tables in
      let method_impl_same = method_impl_read m rec h reads.tables in
      let module_ref_same = module_ref_read m rec h reads.tables in
      let type_spec_same = type_spec_read lower m rec h reads.tables in
      let impl_map_same = impl_map_read m rec h reads.tables in
      let field_rva_same = field_rva_read lower bs m rec h reads.tables reads.bodies reads.field_data in
      let assembly_same = assembly_read m rec h reads.tables in
      let assembly_processor_same = assembly_processor_read m rec h reads.tables in
      let assembly_os_same = assembly_os_read m rec h reads.tables in
      let assembly_ref_same = assembly_ref_read m rec h reads.tables in
      let assembly_ref_processor_same = assembly_ref_processor_read m rec h reads.tables in
      let assembly_ref_os_same = assembly_ref_os_read m rec h reads.tables in
      let file_same = file_read m rec h reads.tables in
      let exported_type_same = exported_type_read m rec h reads.tables in
      let manifest_resource_same = manifest_resource_read m rec h reads.tables in
      let nested_class_same = nested_class_read m rec h reads.tables in
      let generic_param_same = generic_param_read m rec h reads.tables in
      let method_spec_same = method_spec_read lower m rec h reads.tables in
      let generic_param_constraint_same = generic_param_constraint_read m rec h reads.tables in
      let descriptor_same = ap (descriptor_in (all_rows m 0x28 (manifest_resource_row m))) reads.resources ∙ sym h.can.header.descriptor in
      λ i. record {
        bits = reads.bits i;
        subsystem = reads.subsystem i;
        entry = reads.entry i;
        descriptor = descriptor_same i;
        «module» = module_same i;
        type_ref = type_ref_same i;
        type_def = type_def_same i;
        field = field_same i;
        method_def = method_def_same i;
        param = param_same i;
        interface_impl = interface_impl_same i;
        member_ref = member_ref_same i;
        constant = constant_same i;
        custom_attribute = custom_attribute_same i;
        field_marshal = field_marshal_same i;
        decl_security = decl_security_same i;
        class_layout = class_layout_same i;
        field_layout = field_layout_same i;
        stand_alone_sig = stand_alone_sig_same i;
        event_map = event_map_same i;
        event = event_same i;
        property_map = property_map_same i;
        property = property_same i;
        method_semantics = method_semantics_same i;
        method_impl = method_impl_same i;
        module_ref = module_ref_same i;
        type_spec = type_spec_same i;
        impl_map = impl_map_same i;
        field_rva = field_rva_same i;
        assembly = assembly_same i;
        assembly_processor = assembly_processor_same i;
        assembly_os = assembly_os_same i;
        assembly_ref = assembly_ref_same i;
        assembly_ref_processor = assembly_ref_processor_same i;
        assembly_ref_os = assembly_ref_os_same i;
        file = file_same i;
        exported_type = exported_type_same i;
        manifest_resource = manifest_resource_same i;
        nested_class = nested_class_same i;
        generic_param = generic_param_same i;
        method_spec = method_spec_same i;
        generic_param_constraint = generic_param_constraint_same i;
        user = texts_same i;
      }
