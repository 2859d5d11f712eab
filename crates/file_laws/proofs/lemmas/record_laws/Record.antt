-- The record of a file that meets its demands keeps the rules of records.
use Rattle.std.proofs.Common.{◌≡◌, ℕ, List, [], ◌∷◌, length, get_or, None, refl, ap, ap₂, subst, sym, arith}
use Rattle.std.specs.Prelude.{map}
use Rattle.std.specs.List.{AllByRecursion}
use Rattle.il_base.specs.declared.table.TheConstants.{TYPE_DEF, FIELD, METHOD_DEF, PARAM, EVENT, PROPERTY, MODULE_REF, ASSEMBLY_REF, GENERIC_PARAM}
use Rattle.il_base.specs.declared.cli_format.column.Column.TheVariants.{Index, IndexOrNone, Coded, CodedOrNone}
use Rattle.il_base.specs.declared.cli_format.column.CodedIndex.{CodedIndex}
use Rattle.il_base.specs.declared.cli_format.column.CodedIndex.TheVariants.{TypeDefOrRef, HasConstant, HasCustomAttribute, HasFieldMarshal, HasDeclSecurity, MemberRefParent, HasSemantics, MethodDefOrRef, MemberForwarded, Implementation, CustomAttributeType, ResolutionScope, TypeOrMethodDef}
use Rattle.il_base.specs.cli_format.Demand.{first_fault}
use Rattle.il_base.specs.cli_format.Image.{image_demands, metadata_of, metadata_place_of}
use Rattle.il_base.specs.cli_format.Coded.{targets_of}
use Rattle.il_base.specs.cli_format.Columns.{schema, columns_of, sort_key_of}
use Rattle.il_base.specs.cli_format.Tables.{column_of}
use Rattle.il_base.specs.cli_format.Metadata.{tables_demands}
use Rattle.il_base.proofs.lemmas.cli_format.Faults.{none_of_both}
use Rattle.il_base.specs.declared.world_model.record.AsmRec.{AsmRec}
use Rattle.il_base.specs.world_model.Records.{table_sizes, rows_in, TokensName, RunsFollow, TablesAreSorted, IsRecord}
use Rattle.rules.specs.record_format.Cells.{count_of, all_rows}
use Rattle.rules.specs.record_format.Types.{module_row, type_ref_row, type_def_row, interface_impl_row, class_layout_row, type_spec_row, exported_type_row, nested_class_row, generic_param_row, generic_param_constraint_row, module_ref_row, assembly_row, assembly_processor_row, assembly_os_row, assembly_ref_row, assembly_ref_processor_row, assembly_ref_os_row}
use Rattle.rules.specs.record_format.Members.{field_row, method_def_row, param_row, member_ref_row, stand_alone_sig_row, event_map_row, event_row, property_map_row, property_row, method_semantics_row, method_impl_row, method_spec_row}
use Rattle.rules.specs.record_format.Others.{constant_row, custom_attribute_row, field_marshal_row, decl_security_row, field_layout_row, impl_map_row, field_rva_row, file_row, manifest_resource_row}
use Rattle.rules.specs.record_format.Record.{as_demand, record_demands, record_at, HasRecord}
use Rattle.file_laws.proofs.lemmas.record_laws.Rows.{length_rows}
use Rattle.file_laws.proofs.lemmas.record_laws.Columns.{place, each_named, each_run, falls_by_index, rises_by_index, falls_by_coded, falls_by_two}

more : {a b : ℕ} {xs ys : List ℕ} → a ≡ b → xs ≡ ys → (a ∷ xs) ≡ (b ∷ ys)
more e es = ap₂ (λ (x : ℕ) (l : List ℕ). x ∷ l) e es

module _ (bs : List ℕ) (meets : first_fault (record_demands bs) ≡ None) where
  abbrev m : List ℕ
  m = metadata_of bs

  abbrev base : ℕ
  base = metadata_place_of bs

  abbrev rec : AsmRec
  rec = record_at bs

  met : first_fault (tables_demands m base) ≡ None
  unfolding record_demands
  met = (none_of_both (map as_demand (image_demands bs)) (tables_demands m base) meets).1

  -- ---- how many rows

  rows : {A : Type 0} (t : ℕ) (row : ℕ → A) → length (all_rows m t row) ≡ count_of m t
  rows t row = length_rows row (count_of m t)

  counts : List ℕ
  counts = count_of m 0x00 ∷ count_of m 0x01 ∷ count_of m 0x02 ∷ 0 ∷ count_of m 0x04 ∷ 0 ∷ count_of m 0x06 ∷ 0 ∷ count_of m 0x08 ∷ count_of m 0x09 ∷ count_of m 0x0a ∷ count_of m 0x0b ∷ count_of m 0x0c ∷ count_of m 0x0d ∷ count_of m 0x0e ∷ count_of m 0x0f ∷ count_of m 0x10 ∷ count_of m 0x11 ∷ count_of m 0x12 ∷ 0 ∷ count_of m 0x14 ∷ count_of m 0x15 ∷ 0 ∷ count_of m 0x17 ∷ count_of m 0x18 ∷ count_of m 0x19 ∷ count_of m 0x1a ∷ count_of m 0x1b ∷ count_of m 0x1c ∷ count_of m 0x1d ∷ 0 ∷ 0 ∷ count_of m 0x20 ∷ count_of m 0x21 ∷ count_of m 0x22 ∷ count_of m 0x23 ∷ count_of m 0x24 ∷ count_of m 0x25 ∷ count_of m 0x26 ∷ count_of m 0x27 ∷ count_of m 0x28 ∷ count_of m 0x29 ∷ count_of m 0x2a ∷ count_of m 0x2b ∷ count_of m 0x2c ∷ []

  sizes_are : table_sizes rec ≡ counts
  unfolding table_sizes record_at counts
  sizes_are = more (rows 0x00 (module_row m)) (more (rows 0x01 (type_ref_row m)) (more (rows 0x02 (type_def_row m)) (more refl (more (rows 0x04 (field_row m)) (more refl (more (rows 0x06 (method_def_row bs m)) (more refl (more (rows 0x08 (param_row m)) (more (rows 0x09 (interface_impl_row m)) (more (rows 0x0a (member_ref_row m)) (more (rows 0x0b (constant_row m)) (more (rows 0x0c (custom_attribute_row m)) (more (rows 0x0d (field_marshal_row m)) (more (rows 0x0e (decl_security_row m)) (more (rows 0x0f (class_layout_row m)) (more (rows 0x10 (field_layout_row m)) (more (rows 0x11 (stand_alone_sig_row m)) (more (rows 0x12 (event_map_row m)) (more refl (more (rows 0x14 (event_row m)) (more (rows 0x15 (property_map_row m)) (more refl (more (rows 0x17 (property_row m)) (more (rows 0x18 (method_semantics_row m)) (more (rows 0x19 (method_impl_row m)) (more (rows 0x1a (module_ref_row m)) (more (rows 0x1b (type_spec_row m)) (more (rows 0x1c (impl_map_row m)) (more (rows 0x1d (field_rva_row bs m (all_rows m 0x0f (class_layout_row m)) (all_rows m 0x04 (field_row m)))) (more refl (more refl (more (rows 0x20 (assembly_row m)) (more (rows 0x21 (assembly_processor_row m)) (more (rows 0x22 (assembly_os_row m)) (more (rows 0x23 (assembly_ref_row m)) (more (rows 0x24 (assembly_ref_processor_row m)) (more (rows 0x25 (assembly_ref_os_row m)) (more (rows 0x26 (file_row m)) (more (rows 0x27 (exported_type_row m)) (more (rows 0x28 (manifest_resource_row m)) (more (rows 0x29 (nested_class_row m)) (more (rows 0x2a (generic_param_row m)) (more (rows 0x2b (method_spec_row m)) (more (rows 0x2c (generic_param_constraint_row m)) (refl)))))))))))))))))))))))))))))))))))))))))))))

  size : (t : ℕ) → rows_in rec t ≡ get_or counts t 0
  size t = ap (λ (xs : List ℕ). get_or xs t 0) sizes_are

  sizes : (index : CodedIndex) → AllByRecursion (λ t. rows_in rec t ≡ count_of m t) (targets_of index)
  unfolding counts
  sizes TypeDefOrRef = (size 0x02, (size 0x01, (size 0x1b, tt)))
  sizes HasConstant = (size 0x04, (size 0x08, (size 0x17, tt)))
  sizes HasCustomAttribute = (size 0x06, (size 0x04, (size 0x01, (size 0x02, (size 0x08, (size 0x09, (size 0x0a, (size 0x00, (size 0x0e, (size 0x17, (size 0x14, (size 0x11, (size 0x1a, (size 0x1b, (size 0x20, (size 0x23, (size 0x26, (size 0x27, (size 0x28, (size 0x2a, (size 0x2c, (size 0x2b, tt))))))))))))))))))))))
  sizes HasFieldMarshal = (size 0x04, (size 0x08, tt))
  sizes HasDeclSecurity = (size 0x02, (size 0x06, (size 0x20, tt)))
  sizes MemberRefParent = (size 0x02, (size 0x01, (size 0x1a, (size 0x06, (size 0x1b, tt)))))
  sizes HasSemantics = (size 0x14, (size 0x17, tt))
  sizes MethodDefOrRef = (size 0x06, (size 0x0a, tt))
  sizes MemberForwarded = (size 0x04, (size 0x06, tt))
  sizes Implementation = (size 0x26, (size 0x23, (size 0x27, tt)))
  sizes CustomAttributeType = (size 0x06, (size 0x0a, tt))
  sizes ResolutionScope = (size 0x00, (size 0x1a, (size 0x23, (size 0x01, tt))))
  sizes TypeOrMethodDef = (size 0x02, (size 0x06, tt))

  -- ---- tokens

  tokens : TokensName rec
  unfolding columns_of schema column_of counts record_at assembly_ref_os_row assembly_ref_processor_row class_layout_row constant_row custom_attribute_row decl_security_row event_map_row event_row exported_type_row field_layout_row field_marshal_row field_rva_row generic_param_constraint_row generic_param_row impl_map_row interface_impl_row manifest_resource_row member_ref_row method_impl_row method_semantics_row method_spec_row nested_class_row property_map_row type_def_row type_ref_row
  tokens = record {
    type_refs = each_named m base rec met 0x01 0 (CodedOrNone ResolutionScope) (type_ref_row m) (λ row. row.resolution_scope) (place refl refl) tt (sizes ResolutionScope) (λ r. refl);
    type_defs = each_named m base rec met 0x02 3 (CodedOrNone TypeDefOrRef) (type_def_row m) (λ row. row.extends) (place refl refl) tt (sizes TypeDefOrRef) (λ r. refl);
    interface_impls = λ k row e. (each_named m base rec met 0x09 0 (Index TYPE_DEF) (interface_impl_row m) (λ row. row.class) (place refl refl) (omega arith) (size 0x02) (λ r. refl) k row e, each_named m base rec met 0x09 1 (Coded TypeDefOrRef) (interface_impl_row m) (λ row. row.interface) (place refl refl) tt (sizes TypeDefOrRef) (λ r. refl) k row e);
    member_refs = each_named m base rec met 0x0a 0 (Coded MemberRefParent) (member_ref_row m) (λ row. row.class) (place refl refl) tt (sizes MemberRefParent) (λ r. refl);
    constants = each_named m base rec met 0x0b 2 (Coded HasConstant) (constant_row m) (λ row. row.parent) (place refl refl) tt (sizes HasConstant) (λ r. refl);
    custom_attributes = λ k row e. (each_named m base rec met 0x0c 0 (Coded HasCustomAttribute) (custom_attribute_row m) (λ row. row.parent) (place refl refl) tt (sizes HasCustomAttribute) (λ r. refl) k row e, each_named m base rec met 0x0c 1 (Coded CustomAttributeType) (custom_attribute_row m) (λ row. row.ctor) (place refl refl) tt (sizes CustomAttributeType) (λ r. refl) k row e);
    field_marshals = each_named m base rec met 0x0d 0 (Coded HasFieldMarshal) (field_marshal_row m) (λ row. row.parent) (place refl refl) tt (sizes HasFieldMarshal) (λ r. refl);
    decl_securities = each_named m base rec met 0x0e 1 (Coded HasDeclSecurity) (decl_security_row m) (λ row. row.parent) (place refl refl) tt (sizes HasDeclSecurity) (λ r. refl);
    class_layouts = each_named m base rec met 0x0f 2 (Index TYPE_DEF) (class_layout_row m) (λ row. row.parent) (place refl refl) (omega arith) (size 0x02) (λ r. refl);
    field_layouts = each_named m base rec met 0x10 1 (Index FIELD) (field_layout_row m) (λ row. row.field) (place refl refl) (omega arith) (size 0x04) (λ r. refl);
    event_maps = each_named m base rec met 0x12 0 (Index TYPE_DEF) (event_map_row m) (λ row. row.parent) (place refl refl) (omega arith) (size 0x02) (λ r. refl);
    events = each_named m base rec met 0x14 2 (Coded TypeDefOrRef) (event_row m) (λ row. row.event_type) (place refl refl) tt (sizes TypeDefOrRef) (λ r. refl);
    property_maps = each_named m base rec met 0x15 0 (Index TYPE_DEF) (property_map_row m) (λ row. row.parent) (place refl refl) (omega arith) (size 0x02) (λ r. refl);
    method_semantics = λ k row e. (each_named m base rec met 0x18 1 (Index METHOD_DEF) (method_semantics_row m) (λ row. row.method) (place refl refl) (omega arith) (size 0x06) (λ r. refl) k row e, each_named m base rec met 0x18 2 (Coded HasSemantics) (method_semantics_row m) (λ row. row.association) (place refl refl) tt (sizes HasSemantics) (λ r. refl) k row e);
    method_impls = λ k row e. (each_named m base rec met 0x19 0 (Index TYPE_DEF) (method_impl_row m) (λ row. row.class) (place refl refl) (omega arith) (size 0x02) (λ r. refl) k row e, each_named m base rec met 0x19 1 (Coded MethodDefOrRef) (method_impl_row m) (λ row. row.body) (place refl refl) tt (sizes MethodDefOrRef) (λ r. refl) k row e, each_named m base rec met 0x19 2 (Coded MethodDefOrRef) (method_impl_row m) (λ row. row.declaration) (place refl refl) tt (sizes MethodDefOrRef) (λ r. refl) k row e);
    impl_maps = λ k row e. (each_named m base rec met 0x1c 1 (Coded MemberForwarded) (impl_map_row m) (λ row. row.member_forwarded) (place refl refl) tt (sizes MemberForwarded) (λ r. refl) k row e, each_named m base rec met 0x1c 3 (IndexOrNone MODULE_REF) (impl_map_row m) (λ row. row.import_scope) (place refl refl) (omega arith) (size 0x1a) (λ r. refl) k row e);
    field_rvas = each_named m base rec met 0x1d 1 (Index FIELD) (field_rva_row bs m (all_rows m 0x0f (class_layout_row m)) (all_rows m 0x04 (field_row m))) (λ row. row.field) (place refl refl) (omega arith) (size 0x04) (λ r. refl);
    assembly_ref_processors = each_named m base rec met 0x24 1 (Index ASSEMBLY_REF) (assembly_ref_processor_row m) (λ row. row.assembly_ref) (place refl refl) (omega arith) (size 0x23) (λ r. refl);
    assembly_ref_os = each_named m base rec met 0x25 3 (Index ASSEMBLY_REF) (assembly_ref_os_row m) (λ row. row.assembly_ref) (place refl refl) (omega arith) (size 0x23) (λ r. refl);
    exported_types = each_named m base rec met 0x27 4 (CodedOrNone Implementation) (exported_type_row m) (λ row. row.implementation) (place refl refl) tt (sizes Implementation) (λ r. refl);
    manifest_resources = each_named m base rec met 0x28 3 (CodedOrNone Implementation) (manifest_resource_row m) (λ row. row.implementation) (place refl refl) tt (sizes Implementation) (λ r. refl);
    nested_classes = λ k row e. (each_named m base rec met 0x29 0 (Index TYPE_DEF) (nested_class_row m) (λ row. row.nested_class) (place refl refl) (omega arith) (size 0x02) (λ r. refl) k row e, each_named m base rec met 0x29 1 (Index TYPE_DEF) (nested_class_row m) (λ row. row.enclosing_class) (place refl refl) (omega arith) (size 0x02) (λ r. refl) k row e);
    generic_params = each_named m base rec met 0x2a 2 (Coded TypeOrMethodDef) (generic_param_row m) (λ row. row.owner) (place refl refl) tt (sizes TypeOrMethodDef) (λ r. refl);
    method_specs = each_named m base rec met 0x2b 0 (Coded MethodDefOrRef) (method_spec_row m) (λ row. row.method) (place refl refl) tt (sizes MethodDefOrRef) (λ r. refl);
    generic_param_constraints = λ k row e. (each_named m base rec met 0x2c 0 (Index GENERIC_PARAM) (generic_param_constraint_row m) (λ row. row.owner) (place refl refl) (omega arith) (size 0x2a) (λ r. refl) k row e, each_named m base rec met 0x2c 1 (Coded TypeDefOrRef) (generic_param_constraint_row m) (λ row. row.constraint) (place refl refl) tt (sizes TypeDefOrRef) (λ r. refl) k row e);
  }

  -- ---- runs

  runs : RunsFollow rec
  unfolding columns_of schema column_of counts record_at type_def_row method_def_row event_map_row property_map_row
  runs = record {
    fields = each_run m base rec met 0x02 4 FIELD (type_def_row m) (λ row. row.field_list_first) (λ row. row.field_list_end) (place refl refl) (size 0x04) (λ r. refl) (λ r. refl);
    methods = each_run m base rec met 0x02 5 METHOD_DEF (type_def_row m) (λ row. row.method_list_first) (λ row. row.method_list_end) (place refl refl) (size 0x06) (λ r. refl) (λ r. refl);
    params = each_run m base rec met 0x06 5 PARAM (method_def_row bs m) (λ row. row.param_list_first) (λ row. row.param_list_end) (place refl refl) (size 0x08) (λ r. refl) (λ r. refl);
    events = each_run m base rec met 0x12 1 EVENT (event_map_row m) (λ row. row.event_list_first) (λ row. row.event_list_end) (place refl refl) (size 0x14) (λ r. refl) (λ r. refl);
    properties = each_run m base rec met 0x15 1 PROPERTY (property_map_row m) (λ row. row.property_list_first) (λ row. row.property_list_end) (place refl refl) (size 0x17) (λ r. refl) (λ r. refl);
  }

  -- ---- sorted tables

  sorted : TablesAreSorted rec
  unfolding columns_of schema column_of sort_key_of record_at class_layout_row constant_row custom_attribute_row decl_security_row field_layout_row field_marshal_row field_rva_row generic_param_constraint_row generic_param_row impl_map_row interface_impl_row method_impl_row method_semantics_row nested_class_row
  sorted = record {
    interface_impls = falls_by_index m base rec met 0x09 0 TYPE_DEF (interface_impl_row m) (λ row. row.class) (place refl refl) refl (λ r. refl);
    constants = falls_by_coded m base rec met 0x0b 2 HasConstant (constant_row m) (λ row. row.parent) (place refl refl) refl (λ r. refl);
    custom_attributes = falls_by_coded m base rec met 0x0c 0 HasCustomAttribute (custom_attribute_row m) (λ row. row.parent) (place refl refl) refl (λ r. refl);
    field_marshals = falls_by_coded m base rec met 0x0d 0 HasFieldMarshal (field_marshal_row m) (λ row. row.parent) (place refl refl) refl (λ r. refl);
    decl_securities = falls_by_coded m base rec met 0x0e 1 HasDeclSecurity (decl_security_row m) (λ row. row.parent) (place refl refl) refl (λ r. refl);
    class_layouts = falls_by_index m base rec met 0x0f 2 TYPE_DEF (class_layout_row m) (λ row. row.parent) (place refl refl) refl (λ r. refl);
    field_layouts = falls_by_index m base rec met 0x10 1 FIELD (field_layout_row m) (λ row. row.field) (place refl refl) refl (λ r. refl);
    method_semantics = falls_by_coded m base rec met 0x18 2 HasSemantics (method_semantics_row m) (λ row. row.association) (place refl refl) refl (λ r. refl);
    method_impls = falls_by_index m base rec met 0x19 0 TYPE_DEF (method_impl_row m) (λ row. row.class) (place refl refl) refl (λ r. refl);
    impl_maps = falls_by_coded m base rec met 0x1c 1 MemberForwarded (impl_map_row m) (λ row. row.member_forwarded) (place refl refl) refl (λ r. refl);
    field_rvas = falls_by_index m base rec met 0x1d 1 FIELD (field_rva_row bs m (all_rows m 0x0f (class_layout_row m)) (all_rows m 0x04 (field_row m))) (λ row. row.field) (place refl refl) refl (λ r. refl);
    nested_classes = rises_by_index m base rec met 0x29 0 TYPE_DEF (nested_class_row m) (λ row. row.nested_class) (place refl refl) refl (λ r. refl);
    generic_params = falls_by_two m base rec met 0x2a 2 0 TypeOrMethodDef (generic_param_row m) (λ row. row.owner) (λ row. row.number) (place refl refl) refl (λ r. refl) (λ r. refl);
    generic_param_constraints = falls_by_index m base rec met 0x2c 0 GENERIC_PARAM (generic_param_constraint_row m) (λ row. row.owner) (place refl refl) refl (λ r. refl);
  }

  is_record : IsRecord rec
  is_record = record { tokens = tokens; runs = runs; sorted = sorted }

pub has_is_record : (bs : List ℕ) (r : AsmRec) → HasRecord bs r → IsRecord r
has_is_record bs r h = subst IsRecord (sym h.is) (is_record bs h.meets)

-- the rows of the tables that runs are in
pub record Sizes (bs : List ℕ) : Type 0 where
  pub fields : rows_in (record_at bs) FIELD ≡ count_of (metadata_of bs) FIELD
  pub methods : rows_in (record_at bs) METHOD_DEF ≡ count_of (metadata_of bs) METHOD_DEF
  pub params : rows_in (record_at bs) PARAM ≡ count_of (metadata_of bs) PARAM
  pub events : rows_in (record_at bs) EVENT ≡ count_of (metadata_of bs) EVENT
  pub properties : rows_in (record_at bs) PROPERTY ≡ count_of (metadata_of bs) PROPERTY

pub size_of : (bs : List ℕ) → first_fault (record_demands bs) ≡ None → Sizes bs
unfolding counts
size_of bs meets = record { fields = size bs meets 0x04; methods = size bs meets 0x06; params = size bs meets 0x08; events = size bs meets 0x14; properties = size bs meets 0x17 }
