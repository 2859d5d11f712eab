use Rattle.std.proofs.Common.{◌≡◌, ◌++◌, drop}
use Rattle.std.specs.List.{flat_map}
use Rattle.mark_parts.specs.mark_tables.Assemblies.{all_of}
use Rattle.mark_items.specs.mark_calls.Found.{dispatched_from}
use Rattle.mark_items.proofs.mark_calls.interface_calls.all_dispatched.Given as goal

abbrev pub invariant-loop-m : goal.invariant-loop-m
invariant-loop-m l = l.found.items ++ flat_map (dispatched_from (all_of l.marker) l.t) (drop l.m-index l.first) ≡ flat_map (dispatched_from (all_of l.marker) l.t) l.first
