use Rattle.std.proofs.Common.{◌≡◌, [], false, ◌++◌, drop}
use Rattle.virtual_calls.specs.named_members.Named.{gather}
use Rattle.virtual_calls.proofs.named_members.named.gather.Given as goal

abbrev pub invariant-loop-ty : goal.invariant-loop-ty
invariant-loop-ty l =
    l.members ++ gather l.tables.world.now.recs l.wanted l.types l.kind l.inherited l.before.items (drop l.ty-index l.types)
    ≡ gather l.tables.world.now.recs l.wanted l.types l.kind false [] l.types
