use Rattle.std.proofs.Common.{◌≡◌, ◌-◌}
use Rattle.std.specs.List.{list_any}
use Rattle.rules.specs.link_rules.Members.{bases_from}
use Rattle.virtual_calls.specs.Impls.{stands_at}
use Rattle.virtual_calls.proofs.impls.have_method.Given as goal

abbrev pub invariant-loop : goal.invariant-loop
invariant-loop l =
    list_any (stands_at l.tables.world.now.recs l.owner) (bases_from l.tables.world.now.recs (l.count - l.counter) l.ty)
    ≡ list_any (stands_at l.tables.world.now.recs l.owner) (bases_from l.tables.world.now.recs l.count l.fn.start)
