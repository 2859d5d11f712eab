use Rattle.std.proofs.Common.{◌≡◌, ◌++◌, drop}
use Rattle.std.specs.List.{flat_map}
use Rattle.mark_roots.specs.Lookups.{recs_in}
use Rattle.mark_roots.specs.Waiting.{waits_at}
use Rattle.mark_roots.proofs.waiting.add_group.Given as goal

abbrev pub invariant-loop-k : goal.invariant-loop-k
invariant-loop-k l = l.facts ++ flat_map (waits_at (recs_in l.lookup) l.roots l.id) (drop l.k-index l.places) ≡ l.initial.facts ++ flat_map (waits_at (recs_in l.lookup) l.roots l.id) l.places
