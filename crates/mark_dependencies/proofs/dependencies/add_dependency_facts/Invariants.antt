use Rattle.std.proofs.Common.{◌≡◌, ◌++◌, drop}
use Rattle.std.specs.List.{flat_map}
use Rattle.mark_dependencies.specs.Lookups.{recs_in, told_facts}
use Rattle.mark_dependencies.proofs.dependencies.add_dependency_facts.Given as goal

abbrev pub invariant-loop-d : goal.invariant-loop-d
invariant-loop-d l = l.facts ++ flat_map (told_facts (recs_in l.lookup) l.item l.at) (drop l.d-index l.dependencies) ≡ l.initial.facts ++ flat_map (told_facts (recs_in l.lookup) l.item l.at) l.dependencies
