use Rattle.std.proofs.Common.{◌≡◌, ◌++◌, drop, map}
use Rattle.mark_parts.specs.mark_facts.Told.{fact_told}
use Rattle.marking.specs.marking_rules.Lists.{numbers_in}
use Rattle.marking.proofs.marking_rules.lists.numbers_of.Given as goal

abbrev pub invariant-loop-fact : goal.invariant-loop-fact
invariant-loop-fact l =
    l.found ++ numbers_in l.numbers.world.now.recs (map fact_told (drop l.fact-index l.facts)) ≡ numbers_in l.numbers.world.now.recs (map fact_told l.facts)
