use Rattle.std.proofs.Common.{◌≡◌, ◌++◌, drop}
use Rattle.std.specs.List.{flat_map}
use Rattle.mark_parts.specs.mark_tables.Assemblies.{all_of}
use Rattle.mark_items.specs.mark_calls.Found.{found_with}
use Rattle.mark_items.proofs.mark_calls.found.add_all_with.Given as goal

abbrev pub invariant-loop-i : goal.invariant-loop-i
invariant-loop-i l =
    l.found.items ++ flat_map (found_with (all_of l.marker) l.b l.c l.owner l.m l.signature) (drop l.i-index l.instances)
    ≡ l.initial.found.items ++ flat_map (found_with (all_of l.marker) l.b l.c l.owner l.m l.signature) l.instances
