use Rattle.std.proofs.Common.{◌≡◌, ◌++◌, drop}
use Rattle.virtual_calls.specs.named_members.Named.{kept}
use Rattle.virtual_calls.proofs.named_members.named.kept.Given as goal

abbrev pub invariant-loop-x : goal.invariant-loop-x
invariant-loop-x l =
    l.more.items ++ kept l.tables.world.now.recs l.types l.kind l.inherited l.found (drop l.x-index l.rows) ≡ kept l.tables.world.now.recs l.types l.kind l.inherited l.found l.rows
