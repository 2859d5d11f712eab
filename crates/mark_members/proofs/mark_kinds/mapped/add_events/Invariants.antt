use Rattle.std.proofs.Common.{◌≡◌, ◌++◌, drop}
use Rattle.std.specs.List.{filter}
use Rattle.mark_parts.specs.mark_tables.Assemblies.{all_of}
use Rattle.mark_members.specs.mark_kinds.Kinds.{event_counts}
use Rattle.mark_members.proofs.mark_kinds.mapped.add_events.Given as goal

abbrev pub invariant-loop-e : goal.invariant-loop-e
invariant-loop-e l =
    l.found.items ++ filter (event_counts (all_of l.marker) l.own l.two) (drop l.e-index l.rows) ≡ l.initial.found.items ++ filter (event_counts (all_of l.marker) l.own l.two) l.rows
