use Rattle.std.proofs.Common.{◌≡◌, ◌++◌, drop}
use Rattle.std.specs.List.{flat_map}
use Rattle.rules.specs.mark_rules.Roots.{root_facts}
use Rattle.mark_roots.specs.Lookups.{recs_in}
use Rattle.mark_roots.proofs.roots.add_roots.Given as goal

abbrev pub invariant-loop-r : goal.invariant-loop-r
invariant-loop-r l = l.facts ++ flat_map (root_facts (recs_in l.lookup)) (drop l.r-index l.roots) ≡ l.initial.facts ++ flat_map (root_facts (recs_in l.lookup)) l.roots
