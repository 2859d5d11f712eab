use Rattle.std.proofs.Common.{◌≡◌, drop}
use Rattle.std.specs.List.{list_any}
use Rattle.virtual_calls.specs.named_members.Impls.{says_so_at}
use Rattle.virtual_calls.proofs.named_members.impls.any_says_so.Given as goal

abbrev pub invariant-loop-k : goal.invariant-loop-k
invariant-loop-k l =
    list_any (says_so_at l.tables.world.now.recs l.ty l.body l.slot l.asm l.rec) (drop l.k-index l.rows) ≡ list_any (says_so_at l.tables.world.now.recs l.ty l.body l.slot l.asm l.rec) l.rows
