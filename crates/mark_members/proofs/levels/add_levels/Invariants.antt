use Rattle.std.proofs.Common.{◌≡◌, ◌++◌}
use Rattle.mark_parts.specs.mark_tables.Assemblies.{all_of}
use Rattle.mark_members.specs.Levels.{left_items, total}
use Rattle.mark_members.proofs.levels.add_levels.Given as goal

abbrev pub invariant-loop-left : goal.invariant-loop-left
invariant-loop-left l = l.items.items ++ left_items (all_of l.marker) l.left ≡ l.initial.items.items ++ left_items (all_of l.marker) l.fn.waiting

abbrev pub decreases-loop-left : goal.decreases-loop-left
decreases-loop-left l = total (all_of l.marker) l.left
