use Rattle.std.proofs.Common.{◌≡◌, ◌++◌, drop}
use Rattle.std.specs.List.{flat_map}
use Rattle.rules.specs.mark_rules.Properties.{parts_of_event}
use Rattle.mark_parts.specs.mark_tables.Assemblies.{all_of}
use Rattle.requirements.proofs.item_sites.types.add_event_rows.Given as goal

abbrev pub invariant-loop-at : goal.invariant-loop-at
invariant-loop-at l = l.parts ++ flat_map (parts_of_event (all_of l.marker)) (drop l.at-index l.rows) ≡ l.initial.parts ++ flat_map (parts_of_event (all_of l.marker)) l.rows
