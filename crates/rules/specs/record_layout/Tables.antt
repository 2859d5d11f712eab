-- All tables of a record, 00 to 2c, as values and as cells.
use Rattle.std.specs.Prelude.{ℕ, List, [], ◌∷◌, map, Option}
use Rattle.il_base.specs.declared.body.Body.{Body}
use Rattle.il_base.specs.declared.world_model.known.Known.{Known}
use Rattle.il_base.specs.declared.world_model.record.AsmRec.{AsmRec}
use Rattle.rules.specs.file_layout.Bodies.{code_behind, rvas_behind}
use Rattle.rules.specs.file_layout.Cells.{CellTables}
use Rattle.rules.specs.declared.record_layout.value.Value.{Value}
use Rattle.rules.specs.record_layout.Values.{ValueTables, tables_cells}
use Rattle.rules.specs.record_layout.Rows.{module_values, type_ref_values, type_def_values, field_values, method_def_values, param_values, interface_impl_values, member_ref_values, constant_values, custom_attribute_values, field_marshal_values, decl_security_values, class_layout_values, field_layout_values, stand_alone_sig_values, event_map_values, event_values, property_map_values, property_values, method_semantics_values, method_impl_values, module_ref_values, type_spec_values, impl_map_values, field_rva_values, assembly_values, assembly_processor_values, assembly_os_values, assembly_ref_values, assembly_ref_processor_values, assembly_ref_os_values, file_values, exported_type_values, manifest_resource_values, nested_class_values, generic_param_values, method_spec_values, generic_param_constraint_values}
use Rattle.rules.specs.record_layout.FieldData.{with_all_data, data_rvas}

-- ---- code and addresses

abbrev pub bodies_of : AsmRec → List (Option (Known Body))
bodies_of rec = map (λ m. m.body) rec.method_def

-- the bytes of all bodies, in the order of their methods (II.25.4)
abbrev pub bodies_code : AsmRec → List ℕ
bodies_code rec = code_behind [] (bodies_of rec)

-- the bytes of all bodies, and those of fields after them
unfoldable pub code_of : AsmRec → List ℕ
code_of rec = with_all_data (bodies_code rec) rec.field_rva

abbrev pub method_rvas : AsmRec → List ℕ
method_rvas rec = rvas_behind [] (bodies_of rec)

abbrev pub field_rvas : AsmRec → List ℕ
field_rvas rec = data_rvas (bodies_code rec) rec.field_rva

-- the values of rows, each with its RVA
unfoldable pub with_rvas : {A : Type 0} → (ℕ → A → List Value) → List ℕ → List A → List (List Value)
with_rvas values [] rows = []
with_rvas values (rva ∷ rvas) [] = []
with_rvas values (rva ∷ rvas) (row ∷ rows) = values rva row ∷ with_rvas values rvas rows

-- ---- tables

unfoldable pub values_of : AsmRec → ValueTables
values_of rec =
    map module_values rec.«module»
    ∷ map type_ref_values rec.type_ref
    ∷ map type_def_values rec.type_def
    ∷ []
    ∷ map field_values rec.field
    ∷ []
    ∷ with_rvas method_def_values (method_rvas rec) rec.method_def
    ∷ []
    ∷ map param_values rec.param
    ∷ map interface_impl_values rec.interface_impl
    ∷ map member_ref_values rec.member_ref
    ∷ map constant_values rec.constant
    ∷ map custom_attribute_values rec.custom_attribute
    ∷ map field_marshal_values rec.field_marshal
    ∷ map decl_security_values rec.decl_security
    ∷ map class_layout_values rec.class_layout
    ∷ map field_layout_values rec.field_layout
    ∷ map stand_alone_sig_values rec.stand_alone_sig
    ∷ map event_map_values rec.event_map
    ∷ []
    ∷ map event_values rec.event
    ∷ map property_map_values rec.property_map
    ∷ []
    ∷ map property_values rec.property
    ∷ map method_semantics_values rec.method_semantics
    ∷ map method_impl_values rec.method_impl
    ∷ map module_ref_values rec.module_ref
    ∷ map type_spec_values rec.type_spec
    ∷ map impl_map_values rec.impl_map
    ∷ with_rvas field_rva_values (field_rvas rec) rec.field_rva
    ∷ []
    ∷ []
    ∷ map assembly_values rec.assembly
    ∷ map assembly_processor_values rec.assembly_processor
    ∷ map assembly_os_values rec.assembly_os
    ∷ map assembly_ref_values rec.assembly_ref
    ∷ map assembly_ref_processor_values rec.assembly_ref_processor
    ∷ map assembly_ref_os_values rec.assembly_ref_os
    ∷ map file_values rec.file
    ∷ map exported_type_values rec.exported_type
    ∷ map manifest_resource_values rec.manifest_resource
    ∷ map nested_class_values rec.nested_class
    ∷ map generic_param_values rec.generic_param
    ∷ map method_spec_values rec.method_spec
    ∷ map generic_param_constraint_values rec.generic_param_constraint
    ∷ []

unfoldable pub cells_of : AsmRec → CellTables
cells_of rec = tables_cells 0 (values_of rec)
