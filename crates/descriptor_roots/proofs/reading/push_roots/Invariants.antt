use Rattle.std.proofs.Common.{◌≡◌, ◌++◌, map}
use Rattle.descriptor_roots.specs.Roots.{from_source}
use Rattle.descriptor_roots.proofs.reading.push_roots.Given as goal

abbrev pub invariant-loop-root : goal.invariant-loop-root
invariant-loop-root l = l.roots ++ map (from_source l.source) l.root-iterator.rest.items ≡ l.initial.roots ++ map (from_source l.source) l.fn.read
