use Rattle.std.proofs.Common.{◌≡◌, ◌++◌, drop}
use Rattle.std.specs.List.{flat_map}
use Rattle.mark_parts.specs.mark_tables.Assemblies.{all_of}
use Rattle.merge_plan.specs.Kept.{kept_by}
use Rattle.rules.specs.merge_rules.Order.{met_in_type}
use Rattle.restrict.proofs.met_order.types.meet_types.Given as goal

abbrev pub invariant-loop-at : goal.invariant-loop-at
invariant-loop-at l =
    l.mets ++ flat_map (met_in_type (all_of l.world.marker.now) (kept_by l.kept)) (drop l.at-index l.types) ≡ l.initial.mets ++ flat_map (met_in_type (all_of l.world.marker.now) (kept_by l.kept)) l.types
