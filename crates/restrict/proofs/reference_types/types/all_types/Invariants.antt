use Rattle.std.proofs.Common.{◌≡◌, ◌++◌, map, drop}
use Rattle.std.specs.List.{flat_map}
use Rattle.mark_parts.specs.mark_tables.Assemblies.{all_of}
use Rattle.rules.specs.merge_rules.Refs.{types_of_met}
use Rattle.token_keys.specs.met_forms.Told.{met_told}
use Rattle.restrict.proofs.reference_types.types.all_types.Given as goal

abbrev pub invariant-loop-met : goal.invariant-loop-met
invariant-loop-met l =
    l.types.items ++ flat_map (types_of_met (all_of l.world.marker.now)) (map met_told (drop l.met-index l.mets))
    ≡ flat_map (types_of_met (all_of l.world.marker.now)) (map met_told l.mets)
