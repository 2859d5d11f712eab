-- The values of a file's rows fit their columns.
use Rattle.std.proofs.Common.{◌≡◌, ℕ, zero, suc, ◌+◌, ◌<◌, ◌^◌, List, [], ◌∷◌, map, get_or, refl, sym, subst, arith}
use Rattle.std.proofs.lemmas.Option.{none-some}
use Rattle.il_base.specs.blob_grammar.Laws.{AreBytes}
use Rattle.il_base.specs.declared.cli_format.stream.StreamName.TheVariants.{Tables, Strings, Blobs, Guids}
use Rattle.il_base.specs.cli_format.Streams.{heap}
use Rattle.il_base.specs.cli_format.Columns.{columns_of, schema}
use Rattle.il_base.specs.cli_format.Image.{metadata_of}
use Rattle.il_base.specs.cli_format.Tables.{width, column_of, cell_number}
use Rattle.il_base.specs.cli_format.Metadata.{tables_stream}
use Rattle.il_base.specs.declared.world_model.types.ClassLayoutRow.{ClassLayoutRow}
use Rattle.il_base.specs.declared.world_model.members.FieldRow.{FieldRow}
use Rattle.il_base.specs.declared.world_model.members.MethodDefRow.{MethodDefRow}
use Rattle.il_base.specs.declared.world_model.extras.FieldRvaRow.{FieldRvaRow}
use Rattle.rules.specs.record_format.Cells.{number_in, text_in, blob_in, guid_in, count_of, all_rows}
use Rattle.rules.specs.record_format.Record.{record_at}
use Rattle.rules.specs.declared.record_layout.value.Value.{Value}
use Rattle.rules.specs.record_layout.Tables.{with_rvas, method_rvas, field_rvas, values_of}
use Rattle.file_laws.specs.written_tables.Written.{IsText}
use Rattle.file_laws.specs.layout_laws.Columns.{IsGuid, FitsColumns, TableFits}
use Rattle.file_laws.specs.layout_laws.OfFile.{AsLaid}
use Rattle.file_laws.proofs.lemmas.layout_laws.Lists.{of_mapped}
use Rattle.file_laws.proofs.lemmas.layout_laws.RowsJoined.{with_these}
use Rattle.file_laws.proofs.lemmas.layout_laws.FileCells.{heap_bytes, metadata_bytes, number_below, text_is, BlobIs, blob_is, guid_is}
use Rattle.file_laws.proofs.lemmas.layout_laws.FileDemands.{each_row}
use Rattle.rules.specs.record_format.Types.{module_row, type_ref_row, type_def_row, interface_impl_row, class_layout_row, module_ref_row, type_spec_row, assembly_row, assembly_processor_row, assembly_os_row, assembly_ref_row, assembly_ref_processor_row, assembly_ref_os_row, exported_type_row, nested_class_row, generic_param_row, generic_param_constraint_row}
use Rattle.rules.specs.record_layout.Rows.{module_values, type_ref_values, type_def_values, field_values, method_def_values, param_values, interface_impl_values, member_ref_values, constant_values, custom_attribute_values, field_marshal_values, decl_security_values, class_layout_values, field_layout_values, stand_alone_sig_values, event_map_values, event_values, property_map_values, property_values, method_semantics_values, method_impl_values, module_ref_values, type_spec_values, impl_map_values, field_rva_values, assembly_values, assembly_processor_values, assembly_os_values, assembly_ref_values, assembly_ref_processor_values, assembly_ref_os_values, file_values, exported_type_values, manifest_resource_values, nested_class_values, generic_param_values, method_spec_values, generic_param_constraint_values}
use Rattle.rules.specs.record_format.Members.{field_row, method_def_row, param_row, member_ref_row, stand_alone_sig_row, event_map_row, event_row, property_map_row, property_row, method_semantics_row, method_impl_row, method_spec_row}
use Rattle.rules.specs.record_format.Others.{constant_row, custom_attribute_row, field_marshal_row, decl_security_row, field_layout_row, impl_map_row, field_rva_row, file_row, manifest_resource_row}

-- rows with their own addresses
abbrev own_method_def : MethodDefRow → List Value
own_method_def row = method_def_values row.rva row

abbrev own_field_rva : FieldRvaRow → List Value
own_field_rva row = field_rva_values row.rva row

-- the tables by their numbers, the first of which has this one
abbrev AllFit : ℕ → List (List (List Value)) → Type 0
AllFit t [] = Unit {0}
AllFit t (rows ∷ more) = TableFits t rows × AllFit (suc t) more

fit_at : (from : ℕ) (tables : List (List (List Value))) (t : ℕ) → AllFit from tables → TableFits (from + t) (get_or tables t [])
fit_at from [] t h = λ k vs e. absurd (none-some vs e)
fit_at from (rows ∷ more) zero h =
    let same : from ≡ from + 0 = omega arith in
    subst (λ (n : ℕ). TableFits n rows) same h.0
fit_at from (rows ∷ more) (suc t) h =
    let same : suc from + t ≡ from + suc t = omega arith in
    subst (λ (n : ℕ). TableFits n (get_or more t [])) same (fit_at (suc from) more t h.1)

module _ (bs : List ℕ) (bytes : AreBytes bs) where
  abbrev m : List ℕ
  m = metadata_of bs

  abbrev ts : List ℕ
  ts = tables_stream m

  m_bytes : AreBytes m
  m_bytes = metadata_bytes bs bytes

  -- ---- cells

  number : (t c r n : ℕ) → width ts (column_of t c) ≡ n → 0 < 256 ^ n → number_in m t c r < 256 ^ n
  unfolding number_in cell_number
  number t c r n e z = rw e (number_below n ts _ (heap_bytes m Tables m_bytes) z)

  text : (t c r : ℕ) → IsText (text_in m t c r)
  unfolding text_in
  text t c r = text_is (heap m Strings) (number_in m t c r)

  pub blob : (t c r : ℕ) → BlobIs (blob_in m t c r)
  unfolding blob_in
  blob t c r = blob_is (heap m Blobs) (number_in m t c r) (heap_bytes m Blobs m_bytes)

  guid : (t c r : ℕ) → IsGuid (guid_in m t c r)
  unfolding guid_in
  guid t c r = guid_is (heap m Guids) (number_in m t c r)

  -- ---- rows

  module_fits : (r : ℕ) → FitsColumns (columns_of 0x00) (module_values (module_row m r))
  unfolding module_row column_of columns_of schema width
  module_fits r = (number 0x00 0 r 2 refl (omega arith), (text 0x00 1 r, (guid 0x00 2 r, (guid 0x00 3 r, (guid 0x00 4 r, tt)))))

  type_ref_fits : (r : ℕ) → FitsColumns (columns_of 0x01) (type_ref_values (type_ref_row m r))
  unfolding type_ref_row column_of columns_of schema width
  type_ref_fits r = (tt, (text 0x01 1 r, (text 0x01 2 r, tt)))

  type_def_fits : (r : ℕ) → FitsColumns (columns_of 0x02) (type_def_values (type_def_row m r))
  unfolding type_def_row column_of columns_of schema width
  type_def_fits r = (number 0x02 0 r 4 refl (omega arith), (text 0x02 1 r, (text 0x02 2 r, (tt, (tt, (tt, tt))))))

  field_fits : (r : ℕ) → FitsColumns (columns_of 0x04) (field_values (field_row m r))
  unfolding field_row column_of columns_of schema width
  field_fits r = (number 0x04 0 r 2 refl (omega arith), (text 0x04 1 r, (tt, tt)))

  method_def_fits : (r : ℕ) → FitsColumns (columns_of 0x06) (own_method_def (method_def_row bs m r))
  unfolding method_def_row column_of columns_of schema width
  method_def_fits r = (number 0x06 0 r 4 refl (omega arith), (number 0x06 1 r 2 refl (omega arith), (number 0x06 2 r 2 refl (omega arith), (text 0x06 3 r, (tt, (tt, tt))))))

  param_fits : (r : ℕ) → FitsColumns (columns_of 0x08) (param_values (param_row m r))
  unfolding param_row column_of columns_of schema width
  param_fits r = (number 0x08 0 r 2 refl (omega arith), (number 0x08 1 r 2 refl (omega arith), (text 0x08 2 r, tt)))

  interface_impl_fits : (r : ℕ) → FitsColumns (columns_of 0x09) (interface_impl_values (interface_impl_row m r))
  unfolding interface_impl_row column_of columns_of schema width
  interface_impl_fits r = (tt, (tt, tt))

  member_ref_fits : (r : ℕ) → FitsColumns (columns_of 0x0a) (member_ref_values (member_ref_row m r))
  unfolding member_ref_row column_of columns_of schema width
  member_ref_fits r = (tt, (text 0x0a 1 r, (tt, tt)))

  constant_fits : (r : ℕ) → FitsColumns (columns_of 0x0b) (constant_values (constant_row m r))
  unfolding constant_row column_of columns_of schema width
  constant_fits r = (number 0x0b 0 r 1 refl (omega arith), (omega arith, (tt, (tt, tt))))

  custom_attribute_fits : (r : ℕ) → FitsColumns (columns_of 0x0c) (custom_attribute_values (custom_attribute_row m r))
  unfolding custom_attribute_row column_of columns_of schema width
  custom_attribute_fits r = (tt, (tt, (tt, tt)))

  field_marshal_fits : (r : ℕ) → FitsColumns (columns_of 0x0d) (field_marshal_values (field_marshal_row m r))
  unfolding field_marshal_row column_of columns_of schema width
  field_marshal_fits r = (tt, (tt, tt))

  decl_security_fits : (r : ℕ) → FitsColumns (columns_of 0x0e) (decl_security_values (decl_security_row m r))
  unfolding decl_security_row column_of columns_of schema width
  decl_security_fits r = (number 0x0e 0 r 2 refl (omega arith), (tt, (tt, tt)))

  class_layout_fits : (r : ℕ) → FitsColumns (columns_of 0x0f) (class_layout_values (class_layout_row m r))
  unfolding class_layout_row column_of columns_of schema width
  class_layout_fits r = (number 0x0f 0 r 2 refl (omega arith), (number 0x0f 1 r 4 refl (omega arith), (tt, tt)))

  field_layout_fits : (r : ℕ) → FitsColumns (columns_of 0x10) (field_layout_values (field_layout_row m r))
  unfolding field_layout_row column_of columns_of schema width
  field_layout_fits r = (number 0x10 0 r 4 refl (omega arith), (tt, tt))

  stand_alone_sig_fits : (r : ℕ) → FitsColumns (columns_of 0x11) (stand_alone_sig_values (stand_alone_sig_row m r))
  unfolding stand_alone_sig_row column_of columns_of schema width
  stand_alone_sig_fits r = (tt, tt)

  event_map_fits : (r : ℕ) → FitsColumns (columns_of 0x12) (event_map_values (event_map_row m r))
  unfolding event_map_row column_of columns_of schema width
  event_map_fits r = (tt, (tt, tt))

  event_fits : (r : ℕ) → FitsColumns (columns_of 0x14) (event_values (event_row m r))
  unfolding event_row column_of columns_of schema width
  event_fits r = (number 0x14 0 r 2 refl (omega arith), (text 0x14 1 r, (tt, tt)))

  property_map_fits : (r : ℕ) → FitsColumns (columns_of 0x15) (property_map_values (property_map_row m r))
  unfolding property_map_row column_of columns_of schema width
  property_map_fits r = (tt, (tt, tt))

  property_fits : (r : ℕ) → FitsColumns (columns_of 0x17) (property_values (property_row m r))
  unfolding property_row column_of columns_of schema width
  property_fits r = (number 0x17 0 r 2 refl (omega arith), (text 0x17 1 r, (tt, tt)))

  method_semantics_fits : (r : ℕ) → FitsColumns (columns_of 0x18) (method_semantics_values (method_semantics_row m r))
  unfolding method_semantics_row column_of columns_of schema width
  method_semantics_fits r = (number 0x18 0 r 2 refl (omega arith), (tt, (tt, tt)))

  method_impl_fits : (r : ℕ) → FitsColumns (columns_of 0x19) (method_impl_values (method_impl_row m r))
  unfolding method_impl_row column_of columns_of schema width
  method_impl_fits r = (tt, (tt, (tt, tt)))

  module_ref_fits : (r : ℕ) → FitsColumns (columns_of 0x1a) (module_ref_values (module_ref_row m r))
  unfolding module_ref_row column_of columns_of schema width
  module_ref_fits r = (text 0x1a 0 r, tt)

  type_spec_fits : (r : ℕ) → FitsColumns (columns_of 0x1b) (type_spec_values (type_spec_row m r))
  unfolding type_spec_row column_of columns_of schema width
  type_spec_fits r = (tt, tt)

  impl_map_fits : (r : ℕ) → FitsColumns (columns_of 0x1c) (impl_map_values (impl_map_row m r))
  unfolding impl_map_row column_of columns_of schema width
  impl_map_fits r = (number 0x1c 0 r 2 refl (omega arith), (tt, (text 0x1c 2 r, (tt, tt))))

  field_rva_fits : (layouts : List ClassLayoutRow) (fields : List FieldRow) (r : ℕ) → FitsColumns (columns_of 0x1d) (own_field_rva (field_rva_row bs m layouts fields r))
  unfolding field_rva_row column_of columns_of schema width
  field_rva_fits layouts fields r = (number 0x1d 0 r 4 refl (omega arith), (tt, tt))

  assembly_fits : (r : ℕ) → FitsColumns (columns_of 0x20) (assembly_values (assembly_row m r))
  unfolding assembly_row column_of columns_of schema width
  assembly_fits r = (number 0x20 0 r 4 refl (omega arith), (number 0x20 1 r 2 refl (omega arith), (number 0x20 2 r 2 refl (omega arith), (number 0x20 3 r 2 refl (omega arith), (number 0x20 4 r 2 refl (omega arith), (number 0x20 5 r 4 refl (omega arith), (tt, (text 0x20 7 r, (text 0x20 8 r, tt)))))))))

  assembly_processor_fits : (r : ℕ) → FitsColumns (columns_of 0x21) (assembly_processor_values (assembly_processor_row m r))
  unfolding assembly_processor_row column_of columns_of schema width
  assembly_processor_fits r = (number 0x21 0 r 4 refl (omega arith), tt)

  assembly_os_fits : (r : ℕ) → FitsColumns (columns_of 0x22) (assembly_os_values (assembly_os_row m r))
  unfolding assembly_os_row column_of columns_of schema width
  assembly_os_fits r = (number 0x22 0 r 4 refl (omega arith), (number 0x22 1 r 4 refl (omega arith), (number 0x22 2 r 4 refl (omega arith), tt)))

  assembly_ref_fits : (r : ℕ) → FitsColumns (columns_of 0x23) (assembly_ref_values (assembly_ref_row m r))
  unfolding assembly_ref_row column_of columns_of schema width
  assembly_ref_fits r = (number 0x23 0 r 2 refl (omega arith), (number 0x23 1 r 2 refl (omega arith), (number 0x23 2 r 2 refl (omega arith), (number 0x23 3 r 2 refl (omega arith), (number 0x23 4 r 4 refl (omega arith), (tt, (text 0x23 6 r, (text 0x23 7 r, (tt, tt)))))))))

  assembly_ref_processor_fits : (r : ℕ) → FitsColumns (columns_of 0x24) (assembly_ref_processor_values (assembly_ref_processor_row m r))
  unfolding assembly_ref_processor_row column_of columns_of schema width
  assembly_ref_processor_fits r = (number 0x24 0 r 4 refl (omega arith), (tt, tt))

  assembly_ref_os_fits : (r : ℕ) → FitsColumns (columns_of 0x25) (assembly_ref_os_values (assembly_ref_os_row m r))
  unfolding assembly_ref_os_row column_of columns_of schema width
  assembly_ref_os_fits r = (number 0x25 0 r 4 refl (omega arith), (number 0x25 1 r 4 refl (omega arith), (number 0x25 2 r 4 refl (omega arith), (tt, tt))))

  file_fits : (r : ℕ) → FitsColumns (columns_of 0x26) (file_values (file_row m r))
  unfolding file_row column_of columns_of schema width
  file_fits r = (number 0x26 0 r 4 refl (omega arith), (text 0x26 1 r, (tt, tt)))

  exported_type_fits : (r : ℕ) → FitsColumns (columns_of 0x27) (exported_type_values (exported_type_row m r))
  unfolding exported_type_row column_of columns_of schema width
  exported_type_fits r = (number 0x27 0 r 4 refl (omega arith), (number 0x27 1 r 4 refl (omega arith), (text 0x27 2 r, (text 0x27 3 r, (tt, tt)))))

  manifest_resource_fits : (r : ℕ) → FitsColumns (columns_of 0x28) (manifest_resource_values (manifest_resource_row m r))
  unfolding manifest_resource_row column_of columns_of schema width
  manifest_resource_fits r = (number 0x28 0 r 4 refl (omega arith), (number 0x28 1 r 4 refl (omega arith), (text 0x28 2 r, (tt, tt))))

  nested_class_fits : (r : ℕ) → FitsColumns (columns_of 0x29) (nested_class_values (nested_class_row m r))
  unfolding nested_class_row column_of columns_of schema width
  nested_class_fits r = (tt, (tt, tt))

  generic_param_fits : (r : ℕ) → FitsColumns (columns_of 0x2a) (generic_param_values (generic_param_row m r))
  unfolding generic_param_row column_of columns_of schema width
  generic_param_fits r = (number 0x2a 0 r 2 refl (omega arith), (number 0x2a 1 r 2 refl (omega arith), (tt, (text 0x2a 3 r, tt))))

  method_spec_fits : (r : ℕ) → FitsColumns (columns_of 0x2b) (method_spec_values (method_spec_row m r))
  unfolding method_spec_row column_of columns_of schema width
  method_spec_fits r = (tt, (tt, tt))

  generic_param_constraint_fits : (r : ℕ) → FitsColumns (columns_of 0x2c) (generic_param_constraint_values (generic_param_constraint_row m r))
  unfolding generic_param_constraint_row column_of columns_of schema width
  generic_param_constraint_fits r = (tt, (tt, tt))

  -- ---- tables

  made : {A : Type 0} (t : ℕ) (row : ℕ → A) (values : A → List Value) → ((r : ℕ) → FitsColumns (columns_of t) (values (row r))) → TableFits t (map values (all_rows m t row))
  made t row values fits k vs e =
      let found = of_mapped values (all_rows m t row) k vs e in
      rw (← found.2) (each_row (λ x. FitsColumns (columns_of t) (values x)) row (count_of m t) (λ n lt. fits (suc n)) k found.0 found.1)

  module _ (as_laid : AsLaid (record_at bs)) where
    method_def_table : TableFits 0x06 (with_rvas method_def_values (method_rvas (record_at bs)) (record_at bs).method_def)
    unfolding record_at
    method_def_table =
        subst (λ (rows : List (List Value)). TableFits 0x06 rows)
        (sym (with_these method_def_values (λ (x : MethodDefRow). x.rva) (record_at bs).method_def (method_rvas (record_at bs)) as_laid.body_rvas))
        (made 0x06 (method_def_row bs m) own_method_def method_def_fits)

    field_rva_table : TableFits 0x1d (with_rvas field_rva_values (field_rvas (record_at bs)) (record_at bs).field_rva)
    unfolding record_at
    field_rva_table =
        subst (λ (rows : List (List Value)). TableFits 0x1d rows)
        (sym (with_these field_rva_values (λ (x : FieldRvaRow). x.rva) (record_at bs).field_rva (field_rvas (record_at bs)) as_laid.data_rvas))
        (made 0x1d (field_rva_row bs m (all_rows m 0x0f (class_layout_row m)) (all_rows m 0x04 (field_row m))) own_field_rva
        (field_rva_fits (all_rows m 0x0f (class_layout_row m)) (all_rows m 0x04 (field_row m))))

    all_fit : AllFit 0 (values_of (record_at bs))
    unfolding values_of record_at
    all_fit =
        (made 0x00 (module_row m) module_values module_fits, (made 0x01 (type_ref_row m) type_ref_values type_ref_fits, (made 0x02 (type_def_row m) type_def_values type_def_fits, ((λ k vs e. absurd (none-some vs e)), (made 0x04 (field_row m) field_values field_fits, ((λ k vs e. absurd (none-some vs e)), (method_def_table, ((λ k vs e. absurd (none-some vs e)), (made 0x08 (param_row m) param_values param_fits, (made 0x09 (interface_impl_row m) interface_impl_values interface_impl_fits, (made 0x0a (member_ref_row m) member_ref_values member_ref_fits, (made 0x0b (constant_row m) constant_values constant_fits, (made 0x0c (custom_attribute_row m) custom_attribute_values custom_attribute_fits, (made 0x0d (field_marshal_row m) field_marshal_values field_marshal_fits, (made 0x0e (decl_security_row m) decl_security_values decl_security_fits, (made 0x0f (class_layout_row m) class_layout_values class_layout_fits, (made 0x10 (field_layout_row m) field_layout_values field_layout_fits, (made 0x11 (stand_alone_sig_row m) stand_alone_sig_values stand_alone_sig_fits, (made 0x12 (event_map_row m) event_map_values event_map_fits, ((λ k vs e. absurd (none-some vs e)), (made 0x14 (event_row m) event_values event_fits, (made 0x15 (property_map_row m) property_map_values property_map_fits, ((λ k vs e. absurd (none-some vs e)), (made 0x17 (property_row m) property_values property_fits, (made 0x18 (method_semantics_row m) method_semantics_values method_semantics_fits, (made 0x19 (method_impl_row m) method_impl_values method_impl_fits, (made 0x1a (module_ref_row m) module_ref_values module_ref_fits, (made 0x1b (type_spec_row m) type_spec_values type_spec_fits, (made 0x1c (impl_map_row m) impl_map_values impl_map_fits, (field_rva_table, ((λ k vs e. absurd (none-some vs e)), ((λ k vs e. absurd (none-some vs e)), (made 0x20 (assembly_row m) assembly_values assembly_fits, (made 0x21 (assembly_processor_row m) assembly_processor_values assembly_processor_fits, (made 0x22 (assembly_os_row m) assembly_os_values assembly_os_fits, (made 0x23 (assembly_ref_row m) assembly_ref_values assembly_ref_fits, (made 0x24 (assembly_ref_processor_row m) assembly_ref_processor_values assembly_ref_processor_fits, (made 0x25 (assembly_ref_os_row m) assembly_ref_os_values assembly_ref_os_fits, (made 0x26 (file_row m) file_values file_fits, (made 0x27 (exported_type_row m) exported_type_values exported_type_fits, (made 0x28 (manifest_resource_row m) manifest_resource_values manifest_resource_fits, (made 0x29 (nested_class_row m) nested_class_values nested_class_fits, (made 0x2a (generic_param_row m) generic_param_values generic_param_fits, (made 0x2b (method_spec_row m) method_spec_values method_spec_fits, (made 0x2c (generic_param_constraint_row m) generic_param_constraint_values generic_param_constraint_fits, tt)))))))))))))))))))))))))))))))))))))))))))))

    pub file_tables : (t : ℕ) → TableFits t (get_or (values_of (record_at bs)) t [])
    file_tables t =
        let same : 0 + t ≡ t = omega arith in
        subst (λ (n : ℕ). TableFits n (get_or (values_of (record_at bs)) t [])) same (fit_at 0 (values_of (record_at bs)) t all_fit)
