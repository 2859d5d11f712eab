-- Runs of rows.
use Rattle.std.specs.Prelude.{ℕ, ◌-◌, List, [], length, map, Option, slice_get}
use Rattle.std.specs.List.{range_with_len}
use Rattle.std.specs.Option.{option_map, option_map_or}
use Rattle.il_base.specs.declared.world_model.members.PropertyMapRow.{PropertyMapRow}
use Rattle.il_base.specs.declared.world_model.members.EventMapRow.{EventMapRow}
use Rattle.il_base.specs.declared.world_model.record.AsmRec.{AsmRec}
use Rattle.rules.specs.declared.link_rules.row_at.RowAt.{RowAt}
use Rattle.rules.specs.link_rules.Types.{at_row}
use Rattle.rules.specs.link_rules.Members.{run_of}
use Rattle.type_tables.specs.declared.member_search.owners.Run.{Run}
use Rattle.mark_parts.specs.declared.mark_rows.runs.Members.{Members}
use Rattle.mark_parts.specs.declared.mark_rows.runs.Members.TheVariants as members

abbrev pub count_in : Members → AsmRec → ℕ
count_in members.Method rec = length rec.method_def
count_in members.Field rec = length rec.field
count_in members.Property rec = length rec.property
count_in members.Event rec = length rec.event

-- how many rows of a run there are
abbrev pub run_length : Members → AsmRec → Run → ℕ
run_length members.Method rec run = length (run_of run.first run.end rec.method_def)
run_length members.Field rec run = length (run_of run.first run.end rec.field)
run_length members.Property rec run = length (run_of run.first run.end rec.property)
run_length members.Event rec run = length (run_of run.first run.end rec.event)

-- the rows of a run
abbrev pub rows_of_run : Members → AsmRec → ℕ → Run → List RowAt
rows_of_run m rec asm run = map (at_row asm) (range_with_len (run.first - 1) (run_length m rec run))

-- ---- the runs of properties and events

abbrev pub property_run : PropertyMapRow → Run
property_run row = record { first = row.property_list_first; end = row.property_list_end }

abbrev pub event_run : EventMapRow → Run
event_run row = record { first = row.event_list_first; end = row.event_list_end }

-- the rows of the run of a map's row
abbrev pub properties_in : AsmRec → ℕ → PropertyMapRow → List RowAt
properties_in rec asm row = rows_of_run members.Property rec asm (property_run row)

abbrev pub events_in : AsmRec → ℕ → EventMapRow → List RowAt
events_in rec asm row = rows_of_run members.Event rec asm (event_run row)

abbrev pub properties_at : AsmRec → ℕ → ℕ → List RowAt
properties_at rec asm k = option_map_or (properties_in rec asm) (slice_get rec.property_map k) []

abbrev pub events_at : AsmRec → ℕ → ℕ → List RowAt
events_at rec asm k = option_map_or (events_in rec asm) (slice_get rec.event_map k) []
