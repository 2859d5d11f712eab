use Rattle.std.proofs.Common.{◌≡◌, ◌++◌, drop}
use Rattle.std.specs.List.{flat_map}
use Rattle.rules.specs.mark_rules.Members.{impls_of_type}
use Rattle.mark_parts.specs.mark_tables.Assemblies.{all_of}
use Rattle.mark_members.proofs.mark_kinds.impls.impls_along.Given as goal

abbrev pub invariant-loop-c : goal.invariant-loop-c
invariant-loop-c l = l.found.items ++ flat_map (impls_of_type (all_of l.marker)) (drop l.c-index l.types) ≡ flat_map (impls_of_type (all_of l.marker)) l.types
