use Rattle.std.proofs.Common.{◌≡◌, ◌++◌, map, drop}
use Rattle.std.specs.List.{flat_map}
use Rattle.mark_items.specs.mark_needs.Owners.{instance_fact}
use Rattle.mark_items.proofs.mark_needs.types.mark_instances.Given as goal

abbrev pub invariant-loop-at : goal.invariant-loop-at
invariant-loop-at l = l.facts ++ flat_map (instance_fact l.all) (drop l.at-index l.rows) ≡ l.initial.facts ++ flat_map (instance_fact l.all) l.rows
