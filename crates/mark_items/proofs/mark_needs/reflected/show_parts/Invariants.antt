use Rattle.std.proofs.Common.{◌≡◌, ◌++◌, drop, map}
use Rattle.rules.specs.mark_rules.Facts.Fact.{shown}
use Rattle.rules.specs.mark_rules.ReflectedShown.{types_of_parts}
use Rattle.mark_parts.specs.mark_facts.Told.{part_told}
use Rattle.mark_items.proofs.mark_needs.reflected.show_parts.Given as goal

abbrev pub invariant-loop-part : goal.invariant-loop-part
invariant-loop-part l =
    l.facts ++ map shown (types_of_parts (map part_told (drop l.part-index l.parts))) ≡ l.initial.facts ++ map shown (types_of_parts (map part_told l.parts))
