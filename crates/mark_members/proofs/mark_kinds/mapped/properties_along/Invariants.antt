use Rattle.std.proofs.Common.{◌≡◌, ◌++◌, drop}
use Rattle.std.specs.List.{flat_map}
use Rattle.mark_parts.specs.mark_tables.Assemblies.{all_of}
use Rattle.mark_members.specs.mark_kinds.Kinds.{properties_from}
use Rattle.mark_members.proofs.mark_kinds.mapped.properties_along.Given as goal

abbrev pub invariant-loop-c : goal.invariant-loop-c
invariant-loop-c l = l.found.items ++ flat_map (properties_from (all_of l.marker) l.t l.two) (drop l.c-index l.types) ≡ flat_map (properties_from (all_of l.marker) l.t l.two) l.types
