use Rattle.std.proofs.Common.{◌≡◌, ◌++◌, drop}
use Rattle.std.specs.List.{flat_map}
use Rattle.mark_parts.specs.mark_tables.Assemblies.{all_of}
use Rattle.mark_members.specs.Items.{property_items}
use Rattle.mark_members.proofs.items.add_properties.Given as goal

abbrev pub invariant-loop-p : goal.invariant-loop-p
invariant-loop-p l = l.items.items ++ flat_map (property_items (all_of l.marker)) (drop l.p-index l.rows) ≡ l.initial.items.items ++ flat_map (property_items (all_of l.marker)) l.rows
