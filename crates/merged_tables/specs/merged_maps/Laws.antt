-- The rows of maps by the tables of an output are those of the record that a merge leaves.
use Rattle.std.specs.Prelude.{◌≡◌}
use Rattle.rules.specs.merge_rules.Refs.{Output}
use Rattle.rules.specs.merge_rules.Rows.{all_rows}
use Rattle.rules.specs.merge_rules.Restricted.{new_property_map, new_event_map}
use Rattle.merge_plan.specs.declared.kept_tables.tables.KeptTables.{KeptTables}
use Rattle.merge_plan.specs.kept_tables.Kept.{AreKept}
use Rattle.merged_tables.specs.merged_maps.Maps.{property_maps_by, event_maps_by}

pub record AreMaps (o : Output) (t : KeptTables) : Type 0 where
  pub properties : property_maps_by o.recs o.kept t ≡ all_rows (λ rec. rec.property_map) (new_property_map o) o.recs
  pub events : event_maps_by o.recs o.kept t ≡ all_rows (λ rec. rec.event_map) (new_event_map o) o.recs

abbrev pub MapsTell : Type 0
MapsTell = (o : Output) (t : KeptTables) → AreKept o.recs o.kept t → AreMaps o t
