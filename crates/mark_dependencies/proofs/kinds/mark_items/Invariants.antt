use Rattle.std.proofs.Common.{◌≡◌, ◌++◌, map, drop}
use Rattle.rules.specs.mark_rules.Facts.Fact.{marked}
use Rattle.mark_dependencies.proofs.kinds.mark_items.Given as goal

abbrev pub invariant-loop-item : goal.invariant-loop-item
invariant-loop-item l = l.facts ++ map marked (drop l.item-index l.items) ≡ l.initial.facts ++ map marked l.items
