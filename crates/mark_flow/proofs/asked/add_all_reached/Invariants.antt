use Rattle.std.proofs.Common.{◌≡◌, ◌++◌, drop}
use Rattle.std.specs.List.{flat_map}
use Rattle.rules.specs.mark_rules.FlowMarks.{reach}
use Rattle.mark_flow.proofs.asked.add_all_reached.Given as goal

abbrev pub invariant-loop-item : goal.invariant-loop-item
invariant-loop-item l = l.facts ++ flat_map reach (drop l.item-index l.items) ≡ l.initial.facts ++ flat_map reach l.items
