use Rattle.std.proofs.Common.{◌≡◌, ◌++◌, map}
use Rattle.std.specs.List.{range_with_len}
use Rattle.base_laws.specs.link_laws.Parts.{ref_link}
use Rattle.resolver.proofs.type_links.links.push_refs.Given as goal

abbrev pub invariant-loop-k : goal.invariant-loop-k
invariant-loop-k l = l.links.items ≡ l.initial.links.items ++ map (ref_link l.index.all.now l.a l.rec) (range_with_len 0 l.k)
