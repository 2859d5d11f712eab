use Rattle.std.proofs.Common.{◌≡◌, ◌++◌, drop}
use Rattle.std.specs.List.{flat_map}
use Rattle.mark_parts.specs.mark_tables.Assemblies.{all_of}
use Rattle.mark_members.specs.Items.{event_items}
use Rattle.mark_members.proofs.items.add_events.Given as goal

abbrev pub invariant-loop-e : goal.invariant-loop-e
invariant-loop-e l = l.items.items ++ flat_map (event_items (all_of l.marker)) (drop l.e-index l.rows) ≡ l.initial.items.items ++ flat_map (event_items (all_of l.marker)) l.rows
