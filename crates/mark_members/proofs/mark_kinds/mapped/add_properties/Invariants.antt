use Rattle.std.proofs.Common.{◌≡◌, ◌++◌, drop}
use Rattle.std.specs.List.{filter}
use Rattle.mark_parts.specs.mark_tables.Assemblies.{all_of}
use Rattle.mark_members.specs.mark_kinds.Kinds.{property_counts}
use Rattle.mark_members.proofs.mark_kinds.mapped.add_properties.Given as goal

abbrev pub invariant-loop-p : goal.invariant-loop-p
invariant-loop-p l =
    l.found.items ++ filter (property_counts (all_of l.marker) l.own l.two) (drop l.p-index l.rows) ≡ l.initial.found.items ++ filter (property_counts (all_of l.marker) l.own l.two) l.rows
