use Rattle.std.proofs.Common.{◌≡◌, ◌-◌}
use Rattle.rules.specs.link_rules.Members.{bases_from, search}
use Rattle.type_tables.specs.member_search.Wanted.{look_for}
use Rattle.type_tables.proofs.member_search.found.search.Given as goal

abbrev pub invariant-loop : goal.invariant-loop
invariant-loop l =
    search (look_for l.linked.all.now l.name l.wanted) (bases_from l.linked.all.now (l.count - l.counter) l.ty)
    ≡ search (look_for l.linked.all.now l.name l.wanted) (bases_from l.linked.all.now l.count l.fn.start)
