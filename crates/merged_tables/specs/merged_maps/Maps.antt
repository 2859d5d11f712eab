-- The rows of maps whose runs keep a row, by the tables of the output.
use Rattle.std.specs.Prelude.{ℕ, ◌-◌, Bool, List, [], length, map, min, if◌then◌else◌}
use Rattle.std.specs.List.{list_any, flat_map, range_with_len}
use Rattle.il_base.specs.declared.table.TheConstants as table
use Rattle.il_base.specs.declared.world_model.members.PropertyMapRow.{PropertyMapRow}
use Rattle.il_base.specs.declared.world_model.members.EventMapRow.{EventMapRow}
use Rattle.il_base.specs.declared.world_model.record.AsmRec.{AsmRec}
use Rattle.rules.specs.link_rules.Types.{at_row}
use Rattle.rules.specs.link_rules.Cycles.{listed}
use Rattle.rules.specs.merge_rules.Numbers.{Kept, inputs}
use Rattle.rules.specs.merge_rules.Rows.{run_at}
use Rattle.merge_plan.specs.declared.kept.Kind.{Kind}
use Rattle.merge_plan.specs.declared.kept.Kind.TheVariants.{Properties, Events}
use Rattle.merge_plan.specs.Kept.{item_at}
use Rattle.merge_plan.specs.declared.kept_tables.tables.KeptTables.{KeptTables}
use Rattle.merge_plan.specs.kept_tables.Places.{token_in}

abbrev pub of_inputs : {B : Type 0} → (ℕ → AsmRec → List B) → List AsmRec → List B
of_inputs f recs = flat_map (λ (x : ℕ × AsmRec). f x.0 x.1) (inputs recs)

-- how many rows a run has in a table of so many rows
abbrev pub run_length : ℕ → ℕ → ℕ → ℕ
run_length first end rows = min (end - first) (rows - (first - 1))

abbrev pub keeps_row : Kind → List AsmRec → Kept → ℕ → ℕ → Bool
keeps_row kind recs kept a k = kept (item_at kind recs (at_row a k))

-- ---- properties

abbrev pub property_map_with : KeptTables → ℕ → PropertyMapRow → ℕ → PropertyMapRow
property_map_with t a row parent = record {
  parent = parent;
  property_list_first = run_at t.items.properties a row.property_list_first;
  property_list_end = run_at t.items.properties a row.property_list_end;
}

abbrev pub property_map_of : List AsmRec → Kept → KeptTables → ℕ → AsmRec → PropertyMapRow → List PropertyMapRow
property_map_of recs kept t a rec row =
    if list_any (keeps_row Properties recs kept a) (range_with_len (row.property_list_first - 1) (run_length row.property_list_first row.property_list_end (length rec.property)))
    then map (property_map_with t a row) (listed (token_in table.TYPE_DEF t.items.types a row.parent)) else []

abbrev pub property_maps_in : List AsmRec → Kept → KeptTables → ℕ → AsmRec → List PropertyMapRow
property_maps_in recs kept t a rec = flat_map (property_map_of recs kept t a rec) rec.property_map

unfoldable pub property_maps_by : List AsmRec → Kept → KeptTables → List PropertyMapRow
property_maps_by recs kept t = of_inputs (property_maps_in recs kept t) recs

-- ---- events

abbrev pub event_map_with : KeptTables → ℕ → EventMapRow → ℕ → EventMapRow
event_map_with t a row parent = record {
  parent = parent;
  event_list_first = run_at t.items.events a row.event_list_first;
  event_list_end = run_at t.items.events a row.event_list_end;
}

abbrev pub event_map_of : List AsmRec → Kept → KeptTables → ℕ → AsmRec → EventMapRow → List EventMapRow
event_map_of recs kept t a rec row =
    if list_any (keeps_row Events recs kept a) (range_with_len (row.event_list_first - 1) (run_length row.event_list_first row.event_list_end (length rec.event)))
    then map (event_map_with t a row) (listed (token_in table.TYPE_DEF t.items.types a row.parent)) else []

abbrev pub event_maps_in : List AsmRec → Kept → KeptTables → ℕ → AsmRec → List EventMapRow
event_maps_in recs kept t a rec = flat_map (event_map_of recs kept t a rec) rec.event_map

unfoldable pub event_maps_by : List AsmRec → Kept → KeptTables → List EventMapRow
event_maps_by recs kept t = of_inputs (event_maps_in recs kept t) recs
