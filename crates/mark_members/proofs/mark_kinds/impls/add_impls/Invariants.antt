use Rattle.std.proofs.Common.{◌≡◌, ◌++◌, drop}
use Rattle.std.specs.List.{flat_map}
use Rattle.mark_members.specs.mark_kinds.Kinds.{impl_at}
use Rattle.mark_members.proofs.mark_kinds.impls.add_impls.Given as goal

abbrev pub invariant-loop-k : goal.invariant-loop-k
invariant-loop-k l = l.found.items ++ flat_map (impl_at l.rec l.asm) (drop l.k-index l.rows) ≡ l.initial.found.items ++ flat_map (impl_at l.rec l.asm) l.rows
