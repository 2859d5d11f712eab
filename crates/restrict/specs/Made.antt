-- The output's record, made of its rows.
use Rattle.std.specs.Prelude.{◌≡◌, [], map, None}
use Rattle.il_base.specs.declared.world_model.record.AsmRec.{AsmRec}
use Rattle.rules.specs.merge_rules.Restricted.{kept_bits, moved_assembly}
use Rattle.restrict.specs.declared.rows.OutputRows.{OutputRows}
use Rattle.restrict.specs.declared.record.FirstRows.{FirstRows}

-- the first assembly's own rows in the output
pub record AreFirstRows (first : AsmRec) (own : FirstRows) : Type 0 where
  pub modules : own.modules ≡ first.«module»
  pub assemblies : own.assemblies ≡ map moved_assembly first.assembly

unfoldable pub made : AsmRec → FirstRows → OutputRows → AsmRec
made first own rows = record {
  bits = kept_bits first.bits;
  subsystem = first.subsystem;
  entry = rows.entry;
  descriptor = None;
  «module» = own.modules;
  type_ref = rows.references.types;
  type_def = rows.tables.items.types;
  field = rows.tables.items.fields;
  method_def = rows.tables.placed.methods;
  param = rows.tables.items.params;
  interface_impl = rows.tables.owned.interfaces;
  member_ref = rows.references.members;
  constant = rows.tables.belonging.constants;
  custom_attribute = rows.attributes;
  field_marshal = [];
  decl_security = [];
  class_layout = rows.tables.belonging.layouts;
  field_layout = [];
  stand_alone_sig = rows.references.locals;
  event_map = rows.tables.maps.events;
  event = rows.tables.items.events;
  property_map = rows.tables.maps.properties;
  property = rows.tables.items.properties;
  method_semantics = rows.tables.belonging.semantics;
  method_impl = rows.tables.maps.impls;
  module_ref = [];
  type_spec = rows.references.specs;
  impl_map = [];
  field_rva = rows.tables.placed.field_rvas;
  assembly = own.assemblies;
  assembly_processor = [];
  assembly_os = [];
  assembly_ref = rows.references.assemblies;
  assembly_ref_processor = [];
  assembly_ref_os = [];
  file = [];
  exported_type = [];
  manifest_resource = [];
  nested_class = rows.tables.belonging.nested;
  generic_param = rows.tables.owned.generic_params;
  method_spec = rows.references.instances;
  generic_param_constraint = rows.tables.owned.constraints;
  user = rows.user;
}
