-- The output's record, made of its rows, is the one of the definition.
use Rattle.std.proofs.Common.{◌≡◌, Bool, List, [], Some, None, sym, ap, ◌∙◌}
use Rattle.std.specs.Prelude.{slice_get}
use Rattle.std.specs.Option.{option_map}
use Rattle.il_base.specs.declared.world_model.record.AsmRec.{AsmRec}
use Rattle.rules.specs.merge_rules.Numbers.{Kept}
use Rattle.rules.specs.merge_rules.Refs.{Output}
use Rattle.rules.specs.merge_rules.Restricted.{kept_bits, placed_methods, moved_methods, restricted_by, output_of, restricted}
use Rattle.merged_tables.specs.Parts.{output_by}
use Rattle.restrict.specs.declared.rows.OutputRows.{OutputRows}
use Rattle.restrict.specs.declared.record.FirstRows.{FirstRows}
use Rattle.restrict.specs.Rows.{AreOutputRows}
use Rattle.restrict.specs.Made.{AreFirstRows, made}

made_is : (internal : Bool) (o : Output) (first : AsmRec) (own : FirstRows) (rows : OutputRows) → AreFirstRows first own → AreOutputRows internal o first rows
    → made first own rows ≡ restricted_by internal o (placed_methods (moved_methods o)) first
unfolding made
made_is internal o first own rows f r = λ i. record {
  bits = kept_bits first.bits;
  subsystem = first.subsystem;
  entry = r.entry i;
  descriptor = None;
  «module» = f.modules i;
  type_ref = r.references.types i;
  type_def = r.tables.items.types i;
  field = r.tables.items.fields i;
  method_def = r.tables.placed.methods i;
  param = r.tables.items.params i;
  interface_impl = r.tables.owned.interfaces i;
  member_ref = r.references.members i;
  constant = r.tables.belonging.constants i;
  custom_attribute = r.attributes i;
  field_marshal = [];
  decl_security = [];
  class_layout = r.tables.belonging.layouts i;
  field_layout = [];
  stand_alone_sig = r.references.locals i;
  event_map = r.tables.maps.events i;
  event = r.tables.items.events i;
  property_map = r.tables.maps.properties i;
  property = r.tables.items.properties i;
  method_semantics = r.tables.belonging.semantics i;
  method_impl = r.tables.maps.impls i;
  module_ref = [];
  type_spec = r.references.specs i;
  impl_map = [];
  field_rva = r.tables.placed.field_rvas i;
  assembly = f.assemblies i;
  assembly_processor = [];
  assembly_os = [];
  assembly_ref = r.references.assemblies i;
  assembly_ref_processor = [];
  assembly_ref_os = [];
  file = [];
  exported_type = [];
  manifest_resource = [];
  nested_class = r.tables.belonging.nested i;
  generic_param = r.tables.owned.generic_params i;
  method_spec = r.references.instances i;
  generic_param_constraint = r.tables.owned.constraints i;
  user = r.user i;
}

-- with the assemblies and kept items in sight
restricted_is : (internal : Bool) (recs : List AsmRec) (kept : Kept) (first left : AsmRec) → slice_get recs 0 ≡ Some first
    → left ≡ restricted_by internal (output_by recs kept) (placed_methods (moved_methods (output_by recs kept))) first → restricted internal recs kept ≡ Some left
unfolding restricted output_of
restricted_is internal recs kept first left here is =
    ap (option_map (restricted_by internal (output_by recs kept) (placed_methods (moved_methods (output_by recs kept))))) here ∙ ap (λ (r : AsmRec). Some r) (sym is)

pub left_is : (internal : Bool) (recs : List AsmRec) (kept : Kept) (first : AsmRec) (own : FirstRows) (rows : OutputRows) (left : AsmRec) → slice_get recs 0 ≡ Some first
    → AreFirstRows first own → AreOutputRows internal (output_by recs kept) first rows → left ≡ made first own rows → restricted internal recs kept ≡ Some left
left_is internal recs kept first own rows left here f r is =
    restricted_is internal recs kept first left here (is ∙ made_is internal (output_by recs kept) first own rows f r)
