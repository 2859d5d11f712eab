use Rattle.std.proofs.Common.{◌≡◌, ◌-◌, length}
use Rattle.rules.specs.link_rules.Types.{top_type}
use Rattle.resolver.proofs.type_links.index.TypeIndex.top_type.Given as goal

abbrev pub invariant-loop : goal.invariant-loop
invariant-loop l =
    top_type l.self.all.now (length l.self.all.now - l.counter) l.name.namespace.now l.name.name.now l.at
    ≡ top_type l.self.all.now (length l.self.all.now) l.name.namespace.now l.name.name.now l.a
