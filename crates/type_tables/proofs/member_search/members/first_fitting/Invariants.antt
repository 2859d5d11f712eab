use Rattle.std.proofs.Common.{◌≡◌, drop}
use Rattle.type_tables.specs.member_search.Names.{first_fitting}
use Rattle.type_tables.specs.member_search.Wanted.{fits}
use Rattle.type_tables.proofs.member_search.members.first_fitting.Given as goal

abbrev pub invariant-loop-k : goal.invariant-loop-k
invariant-loop-k l =
    first_fitting (fits l.scope.linked.all.now l.scope.asm l.scope.rec.now l.targs l.wanted) l.end (drop l.k-index l.rows)
    ≡ first_fitting (fits l.scope.linked.all.now l.scope.asm l.scope.rec.now l.targs l.wanted) l.end l.rows
