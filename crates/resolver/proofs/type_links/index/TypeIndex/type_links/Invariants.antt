use Rattle.std.proofs.Common.{◌≡◌}
use Rattle.resolver.specs.type_links.Linking.{links_before}
use Rattle.resolver.proofs.type_links.index.TypeIndex.type_links.Given as goal

abbrev pub invariant-loop-a : goal.invariant-loop-a
invariant-loop-a l = l.links.items ≡ links_before l.self.all.now l.a
