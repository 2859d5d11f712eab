use Rattle.std.proofs.Common.{◌≡◌, ◌++◌, drop}
use Rattle.std.specs.List.{flat_map}
use Rattle.mark_parts.specs.mark_tables.Assemblies.{all_of}
use Rattle.rules.specs.merge_rules.Order.{met_property_row}
use Rattle.restrict.proofs.met_order.members.meet_property_rows.Given as goal

abbrev pub invariant-loop-at : goal.invariant-loop-at
invariant-loop-at l =
    l.mets ++ flat_map (met_property_row (all_of l.world.marker.now)) (drop l.at-index l.properties) ≡ l.initial.mets ++ flat_map (met_property_row (all_of l.world.marker.now)) l.properties
