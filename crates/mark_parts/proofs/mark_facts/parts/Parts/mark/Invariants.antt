use Rattle.std.proofs.Common.{◌≡◌, ◌++◌, drop, map}
use Rattle.rules.specs.mark_rules.Naming.{of_parts}
use Rattle.mark_parts.specs.mark_facts.Told.{part_told}
use Rattle.mark_parts.proofs.mark_facts.parts.Parts.mark.Given as goal

abbrev pub invariant-loop-part : goal.invariant-loop-part
invariant-loop-part l = l.facts ++ of_parts (map part_told (drop l.part-index l.part-items)) ≡ l.initial.facts ++ of_parts (map part_told l.part-items)
