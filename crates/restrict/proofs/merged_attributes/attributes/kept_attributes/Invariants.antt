use Rattle.std.proofs.Common.{◌≡◌, ◌++◌, map, drop}
use Rattle.mark_parts.specs.mark_tables.Assemblies.{all_of}
use Rattle.merge_plan.specs.Kept.{all_from}
use Rattle.restrict.specs.merged_attributes.Attributes.{told, attributes_in}
use Rattle.restrict.proofs.merged_attributes.attributes.kept_attributes.Given as goal

abbrev pub invariant-loop-a : goal.invariant-loop-a
invariant-loop-a l =
    map told l.all.items ++ all_from (attributes_in l.tables (all_of l.world.marker.now)) l.a (drop l.a l.rec-items) ≡ all_from (attributes_in l.tables (all_of l.world.marker.now)) 0 l.rec-items
