use Rattle.std.proofs.Common.{◌≡◌, ◌++◌, drop}
use Rattle.std.specs.List.{flat_map}
use Rattle.base_laws.specs.known_laws.Known.{slot_and_own}
use Rattle.mark_parts.specs.mark_tables.Assemblies.{all_of}
use Rattle.marking.proofs.mark_known.own.add_methods.Given as goal

abbrev pub invariant-loop-at : goal.invariant-loop-at
invariant-loop-at l =
    l.found.items ++ flat_map (slot_and_own (all_of l.marker)) (drop l.at-index l.methods) ≡ l.initial.found.items ++ flat_map (slot_and_own (all_of l.marker)) l.methods
