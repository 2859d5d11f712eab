-- The tables of kept rows of an output.
use Rattle.std.specs.Prelude.{◌≡◌, Bool, [], length}
use Rattle.rules.specs.file_layout.Bodies.{code_behind}
use Rattle.rules.specs.merge_rules.Numbers.{kept_types, kept_fields, kept_properties, kept_events}
use Rattle.rules.specs.merge_rules.Refs.{Output}
use Rattle.rules.specs.merge_rules.Rows.{all_rows, kept_params, kept_interfaces, kept_generic_params, kept_constraints}
use Rattle.rules.specs.merge_rules.Moved.{moved_type_row, moved_field_row, moved_param_row, moved_property_row, moved_event_row}
use Rattle.rules.specs.merge_rules.Restricted.{each_at, each_sorted, placed_methods, moved_methods, bodies_of, field_rvas, new_impl, new_generic_param, new_constraint, constants, class_layouts, nested_classes, method_semantics, method_impls, new_property_map, new_event_map}
use Rattle.merged_tables.specs.declared.items.ItemRows.{ItemRows}
use Rattle.merged_tables.specs.declared.placed.PlacedRows.{PlacedRows}
use Rattle.merged_tables.specs.declared.owned.OwnedRows.{OwnedRows}
use Rattle.merged_tables.specs.declared.belonging.BelongingRows.{BelongingRows}
use Rattle.merged_tables.specs.declared.maps.MapRows.{MapRows}
use Rattle.merged_tables.specs.declared.tables.MergedTables.{MergedTables}

pub record AreItemRows (internal : Bool) (o : Output) (r : ItemRows) : Type 0 where
  pub types : r.types ≡ each_at o.recs (λ rec. rec.type_def) (moved_type_row internal o) (kept_types o.recs o.kept)
  pub fields : r.fields ≡ each_at o.recs (λ rec. rec.field) (moved_field_row o) (kept_fields o.recs o.kept)
  pub params : r.params ≡ each_at o.recs (λ rec. rec.param) (λ at rec row. moved_param_row row) (kept_params o.recs o.kept)
  pub properties : r.properties ≡ each_at o.recs (λ rec. rec.property) (moved_property_row o) (kept_properties o.recs o.kept)
  pub events : r.events ≡ each_at o.recs (λ rec. rec.event) (moved_event_row o) (kept_events o.recs o.kept)

pub record ArePlacedRows (o : Output) (r : PlacedRows) : Type 0 where
  pub methods : r.methods ≡ placed_methods (moved_methods o)
  pub field_rvas : r.field_rvas ≡ field_rvas o (length (code_behind [] (bodies_of (placed_methods (moved_methods o)))))

pub record AreOwnedRows (o : Output) (r : OwnedRows) : Type 0 where
  pub interfaces : r.interfaces ≡ each_sorted o.recs (λ rec. rec.interface_impl) (new_impl o) (kept_interfaces o.recs o.kept)
  pub generic_params : r.generic_params ≡ each_sorted o.recs (λ rec. rec.generic_param) new_generic_param (kept_generic_params o.recs o.kept)
  pub constraints : r.constraints ≡ each_sorted o.recs (λ rec. rec.generic_param_constraint) (new_constraint o) (kept_constraints o.recs o.kept)

pub record AreBelongingRows (o : Output) (r : BelongingRows) : Type 0 where
  pub constants : r.constants ≡ constants o
  pub layouts : r.layouts ≡ class_layouts o
  pub nested : r.nested ≡ nested_classes o
  pub semantics : r.semantics ≡ method_semantics o

pub record AreMapRows (o : Output) (r : MapRows) : Type 0 where
  pub properties : r.properties ≡ all_rows (λ rec. rec.property_map) (new_property_map o) o.recs
  pub events : r.events ≡ all_rows (λ rec. rec.event_map) (new_event_map o) o.recs
  pub impls : r.impls ≡ method_impls o

pub record AreMergedTables (internal : Bool) (o : Output) (t : MergedTables) : Type 0 where
  pub items : AreItemRows internal o t.items
  pub placed : ArePlacedRows o t.placed
  pub owned : AreOwnedRows o t.owned
  pub belonging : AreBelongingRows o t.belonging
  pub maps : AreMapRows o t.maps
