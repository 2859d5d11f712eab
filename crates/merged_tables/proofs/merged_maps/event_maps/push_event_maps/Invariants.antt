use Rattle.std.proofs.Common.{◌≡◌, ◌++◌, drop}
use Rattle.std.specs.List.{flat_map}
use Rattle.merge_plan.specs.Kept.{kept_by}
use Rattle.merged_tables.specs.merged_maps.Maps.{event_map_of}
use Rattle.merged_tables.proofs.merged_maps.event_maps.push_event_maps.Given as goal

abbrev pub invariant-loop-row : goal.invariant-loop-row
invariant-loop-row l =
    l.rows ++ flat_map (event_map_of l.recs (kept_by l.kept) l.tables l.asm l.rec) (drop l.row-index l.row-items)
    ≡ l.initial.rows ++ flat_map (event_map_of l.recs (kept_by l.kept) l.tables l.asm l.rec) l.row-items
