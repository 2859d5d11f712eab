use Rattle.std.proofs.Common.{◌≡◌, ◌++◌, drop}
use Rattle.merge_plan.specs.Kept.{all_from, kept_by}
use Rattle.merged_tables.specs.merged_maps.Maps.{event_maps_in}
use Rattle.merged_tables.proofs.merged_maps.event_maps.event_maps.Given as goal

abbrev pub invariant-loop-a : goal.invariant-loop-a
invariant-loop-a l = l.rows ++ all_from (event_maps_in l.recs (kept_by l.kept) l.tables) l.a (drop l.a l.rec-items) ≡ all_from (event_maps_in l.recs (kept_by l.kept) l.tables) 0 l.rec-items
