use Rattle.std.proofs.Common.{◌≡◌, ◌++◌, map, drop}
use Rattle.mark_roots.specs.Lookups.{recs_in}
use Rattle.mark_roots.specs.Waiting.{key_of}
use Rattle.mark_roots.proofs.waiting.keys_of.Given as goal

abbrev pub invariant-loop-r : goal.invariant-loop-r
invariant-loop-r l = l.keys.items ++ map (key_of (recs_in l.lookup)) (drop l.r-index l.roots) ≡ map (key_of (recs_in l.lookup)) l.roots
