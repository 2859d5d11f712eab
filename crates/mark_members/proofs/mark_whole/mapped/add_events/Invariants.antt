use Rattle.std.proofs.Common.{◌≡◌, ◌++◌, drop}
use Rattle.std.specs.List.{flat_map}
use Rattle.rules.specs.mark_rules.Properties.{whole_event}
use Rattle.mark_parts.specs.mark_tables.Assemblies.{all_of}
use Rattle.mark_members.proofs.mark_whole.mapped.add_events.Given as goal

abbrev pub invariant-loop-at : goal.invariant-loop-at
invariant-loop-at l = l.facts ++ flat_map (whole_event (all_of l.marker)) (drop l.at-index l.rows) ≡ l.initial.facts ++ flat_map (whole_event (all_of l.marker)) l.rows
