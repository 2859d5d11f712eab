use Rattle.std.proofs.Common.{◌≡◌, ◌++◌, map}
use Rattle.std.specs.List.{range_with_len}
use Rattle.base_laws.specs.link_laws.Parts.{def_link}
use Rattle.resolver.proofs.type_links.links.push_defs.Given as goal

abbrev pub invariant-loop-k : goal.invariant-loop-k
invariant-loop-k l = l.links.items ≡ l.initial.links.items ++ map (def_link l.all l.a) (range_with_len 0 l.k)
