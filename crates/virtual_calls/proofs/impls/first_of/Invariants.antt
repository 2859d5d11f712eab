use Rattle.std.proofs.Common.{◌≡◌, drop}
use Rattle.type_tables.specs.Groups.{first_of}
use Rattle.virtual_calls.specs.Impls.{declares_by, impl_at}
use Rattle.virtual_calls.proofs.impls.first_of.Given as goal

abbrev pub invariant-loop-k : goal.invariant-loop-k
invariant-loop-k l =
    first_of (impl_at l.tables.world.now.recs l.ty (declares_by l.tables.world.now.recs l.declares) l.asm l.rec) (drop l.k-index l.rows)
    ≡ first_of (impl_at l.tables.world.now.recs l.ty (declares_by l.tables.world.now.recs l.declares) l.asm l.rec) l.rows
