use Rattle.std.proofs.Common.{◌≡◌, ◌++◌, drop}
use Rattle.std.specs.List.{flat_map}
use Rattle.virtual_calls.specs.named_members.Mapped.{named_under}
use Rattle.virtual_calls.proofs.named_members.mapped.named_under.Given as goal

abbrev pub invariant-loop-k : goal.invariant-loop-k
invariant-loop-k l = l.found.items ++ flat_map (named_under l.mapped l.rec l.asm l.wanted) (drop l.k-index l.rows) ≡ flat_map (named_under l.mapped l.rec l.asm l.wanted) l.rows
