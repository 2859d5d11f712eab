-- Properties and events, whose runs stand in PropertyMap (II.22.35) and EventMap (II.22.12).
use Rattle.std.specs.Prelude.{ℕ, suc, ◌-◌, List, [], length, map, Option, slice_get, Bool}
use Rattle.std.specs.List.{list_any, flat_map, filter, range_with_len}
use Rattle.std.specs.Option.{option_map, option_map_or}
use Rattle.il_base.specs.declared.table.TheConstants.{TYPE_DEF}
use Rattle.il_base.specs.declared.world_model.members.PropertyRow.{PropertyRow}
use Rattle.il_base.specs.declared.world_model.members.PropertyMapRow.{PropertyMapRow}
use Rattle.il_base.specs.declared.world_model.members.EventRow.{EventRow}
use Rattle.il_base.specs.declared.world_model.members.EventMapRow.{EventMapRow}
use Rattle.il_base.specs.declared.world_model.record.AsmRec.{AsmRec}
use Rattle.il_base.specs.world_model.Tokens.{token_of}
use Rattle.rules.specs.declared.link_rules.row_at.RowAt.{RowAt}
use Rattle.rules.specs.link_rules.Types.{at_row}
use Rattle.rules.specs.link_rules.Members.{run_of}
use Rattle.rules.specs.link_rules.Cycles.{listed}
use Rattle.type_tables.specs.declared.member_search.owners.Run.{Run}
use Rattle.rules.specs.type_rules.Searches as searches
use Rattle.type_tables.specs.declared.tables.RowTables.{RowTables}
use Rattle.type_tables.specs.Groups.{rows_with}
use Rattle.virtual_calls.specs.declared.named_members.kinds.Mapped.{Mapped}
use Rattle.virtual_calls.specs.declared.named_members.kinds.Mapped.TheVariants.{Property, Event}

-- how many rows an assembly has
abbrev pub count_in : Mapped → AsmRec → ℕ
count_in Property rec = length rec.property
count_in Event rec = length rec.event

-- the rows of the map of a type, by its token
abbrev pub map_rows : Mapped → RowTables → ℕ → List ℕ
map_rows Property tables token = rows_with tables.properties token
map_rows Event tables token = rows_with tables.events token

abbrev pub property_run : PropertyMapRow → Run
property_run row = record { first = row.property_list_first; end = row.property_list_end }

abbrev pub event_run : EventMapRow → Run
event_run row = record { first = row.event_list_first; end = row.event_list_end }

-- the run of a row of the map
abbrev pub run_at : Mapped → AsmRec → ℕ → Option Run
run_at Property rec k = option_map property_run (slice_get rec.property_map k)
run_at Event rec k = option_map event_run (slice_get rec.event_map k)

abbrev pub has_name : Mapped → AsmRec → Option (List ℕ) → ℕ → Bool
has_name Property rec wanted k = list_any (λ (p : PropertyRow). searches.is_wanted wanted p.name) (listed (slice_get rec.property k))
has_name Event rec wanted k = list_any (λ (p : EventRow). searches.is_wanted wanted p.name) (listed (slice_get rec.event k))

-- the rows of some numbers from a start on that have a wanted name
abbrev pub named_from : Mapped → AsmRec → ℕ → Option (List ℕ) → ℕ → ℕ → List RowAt
named_from m rec asm wanted start n = map (at_row asm) (filter (has_name m rec wanted) (range_with_len start n))

-- how many rows of a run there are
abbrev pub run_length : Mapped → AsmRec → Run → ℕ
run_length Property rec run = length (run_of run.first run.end rec.property)
run_length Event rec run = length (run_of run.first run.end rec.event)

abbrev pub named_in_run : Mapped → AsmRec → ℕ → Option (List ℕ) → Run → List RowAt
named_in_run m rec asm wanted run = named_from m rec asm wanted (run.first - 1) (run_length m rec run)

abbrev pub named_under : Mapped → AsmRec → ℕ → Option (List ℕ) → ℕ → List RowAt
named_under m rec asm wanted k = option_map_or (named_in_run m rec asm wanted) (run_at m rec k) []

-- those of a type, by its row from 0
abbrev pub places_of : Mapped → AsmRec → ℕ → List ℕ
places_of Property rec k = flat_map (searches.property_run rec (token_of TYPE_DEF (suc k))) rec.property_map
places_of Event rec k = flat_map (searches.event_run rec (token_of TYPE_DEF (suc k))) rec.event_map

-- those of a type that have a wanted wanted
abbrev pub named_places : Mapped → AsmRec → Option (List ℕ) → RowAt → List RowAt
named_places m rec wanted at = map (at_row at.asm) (filter (has_name m rec wanted) (places_of m rec at.row))
